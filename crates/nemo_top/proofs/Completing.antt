-- From what a call answers to what it must answer.
use Rattle.std.proofs.Common.{◌≡◌, ◌∙◌, ap, refl, sym, subst, inl, inr, ℕ, ◌≤◌, List, [], ◌∷◌, ◌++◌, length, Result, Ok, Err, Option, Some, None, IfSome, slice_get, append-nil, length-append, arith, OnOk}
use Rattle.std.specs.Io.KnownBytes.{Consumes, IsAtEnd}
use Rattle.serde_json.specs.Data.{Data}
use Rattle.nemo_bundle.specs.declared.bundle.Bundle.{Bundle}
use Rattle.nemo_core.specs.declared.event.Event.{Event}
use Rattle.nemo_io.specs.Faults.{HasCause, Rose}
use Rattle.nemo_ir.specs.Flat.{FlatForm}
use Rattle.nemo_ir.specs.declared.clause.Clause.{Clause}
use Rattle.nemo_ir.specs.declared.clause.Clause.TheVariants.{V1, V2, V3, V4, V5, V6, V7, V8, V9}
use Rattle.nemo_ir.specs.Valid.{Valid, Holds, FirstAmong, clauses}
use Rattle.nemo_ir.specs.declared.dag.IrDag.{IrDag}
use Rattle.nemo_job.specs.Sinks.{job_faults}
use Rattle.nemo_transform.specs.Brought.{Arisen}
use Rattle.nemo_top.specs.Answers.{Answers, EndsWith}
use Rattle.nemo_top.specs.Bundles.{IsBundle, IsJson, bundle_for}
use Rattle.nemo_top.specs.Calls.{Call, ReadWhole}
use Rattle.nemo_top.specs.Complete.{Brings, Completes, Evaluates}
use Rattle.nemo_top.specs.Ends.{Ends, IsDone, ProposesWrong}
use Rattle.nemo_top.specs.Words.{command_of}
use Rattle.nemo_top.specs.declared.status.Status.{Status}
use Rattle.nemo_top.specs.declared.status.Status.TheVariants.{Done, Usage, ReadFault, WriteFault, NotJson, TooLong, BundleRefused, DagRefused, TransformFault, NoMemory}
use Rattle.nemo_top.specs.declared.word.Command.{Command}
use Rattle.nemo_top.specs.declared.word.Command.TheVariants.{Eval, Check, Solo}

---- a valid DAG has no first failure

holds_each : (flat : FlatForm) (dag : IrDag) → Valid flat dag → (c : Clause) → Holds flat dag c
holds_each flat dag valid V1 = valid.v1
holds_each flat dag valid V2 = valid.v2
holds_each flat dag valid V3 = valid.v3
holds_each flat dag valid V4 = valid.v4
holds_each flat dag valid V5 = valid.v5
holds_each flat dag valid V6 = valid.v6
holds_each flat dag valid V7 = valid.v7
holds_each flat dag valid V8 = valid.v8
holds_each flat dag valid V9 = valid.v9

none_among : (flat : FlatForm) (dag : IrDag) (cs : List Clause) (n i : ℕ) → ((c : Clause) → Holds flat dag c) → FirstAmong flat dag cs n i → ⊥
none_among flat dag [] n i all h = h
none_among flat dag (c ∷ cs) n i all (inl here) = here.1.fails (all c i here.1.within)
none_among flat dag (c ∷ cs) n i all (inr later) = none_among flat dag cs n i all later.1

valid_if : (flat : FlatForm) (o : Option IrDag) (dag : IrDag) → o ≡ Some dag → IfSome o (Valid flat) → Valid flat dag
valid_if flat o dag is valid = subst (λ o. IfSome o (Valid flat)) is valid

proposes_right : (b : Bundle) (clause index : ℕ) → IfSome b.dag (Valid b.flat) → ProposesWrong b clause index → ⊥
proposes_right b clause index valid h = none_among b.flat h.0 clauses clause index (holds_each b.flat h.0 (valid_if b.flat b.dag h.0 h.1 valid)) h.2

---- the one content

whole_is : (all bytes : List ℕ) (after : Option (List ℕ)) → Consumes (Some all) after bytes → IsAtEnd after → bytes ≡ all
whole_is all bytes None taken ended = absurd taken
whole_is all bytes (Some rest) taken ended = sym (taken ∙ ap (λ r. bytes ++ r) ended ∙ append-nil bytes)

part_of : (all bytes : List ℕ) (after : Option (List ℕ)) → Consumes (Some all) after bytes → length bytes ≤ length all
part_of all bytes None taken = absurd taken
part_of all bytes (Some rest) taken = omega (arith, ap length taken, length-append bytes rest)

one_value : (bytes : List ℕ) (d e : Data) → IsJson bytes d → IsJson bytes e → d ≡ e
one_value bytes d e j k = cc (j.1, k.1)

one_command : (words : List (List ℕ)) (c e : Command) → command_of words ≡ Some c → command_of words ≡ Some e → c ≡ e
one_command words c e j k = cc (j, k)

module _ (call : Call) (command : Command) (b : Bundle) (brings : Brings call.words call.before command b) where
  bytes_are : (bytes : List ℕ) → ReadWhole call bytes → bytes ≡ brings.bytes
  bytes_are bytes whole = whole_is brings.bytes bytes call.after (subst (λ o. Consumes o call.after bytes) brings.told whole.taken) whole.ended

  -- what the command makes of a value that the content is
  value_gives : (bytes : List ℕ) (d : Data) → ReadWhole call bytes → IsJson bytes d → bundle_for command d ≡ Ok b
  value_gives bytes d whole json =
      let same = one_value brings.bytes d brings.bundle.0 (subst (λ xs. IsJson xs d) (bytes_are bytes whole) json) brings.bundle.1 in
      ap (bundle_for command) same ∙ brings.bundle.2

  same_bundle : (bytes : List ℕ) (e : Bundle) → ReadWhole call bytes → IsBundle command bytes e → e ≡ b
  same_bundle bytes e whole is = cc (value_gives bytes is.0 whole is.1, is.2)

  -- the command ends so with this bundle
  ends_so : (status : Status) (log : List Event) (text : List ℕ) (other : Command) (bytes : List ℕ) (e : Bundle) → command_of call.words ≡ Some other → ReadWhole call bytes → IsBundle other bytes e → Ends other e status log text
      → Ends command b status log text
  ends_so status log text other bytes e asked whole is h =
      let same = one_command call.words other command asked brings.asked in
      let bundle = same_bundle bytes e whole (subst (λ c. IsBundle c bytes e) same is) in
      subst (λ x. Ends command x status log text) bundle (subst (λ c. Ends c e status log text) same h)

  pub of_reads : (status : Status) (log : List Event) (text : List ℕ) → ((log : List Event) (text : List ℕ) → Ends command b status log text → Completes command b status)
      → (h : (other : Command) × (bytes : List ℕ) × (command_of call.words ≡ Some other) × ReadWhole call bytes × EndsWith other bytes status log text) → Completes command b status
  of_reads status log text completes h = completes log text (ends_so status log text h.0 h.1 h.4.0 h.2 h.3 h.4.1 h.4.2)

---- the status of each end

spent : (command : Command) (b : Bundle) → Completes command b NoMemory
spent Eval b = spent_by (job_faults b.job)
  where
    spent_by : (faults : List (Arisen (List ℕ))) → Evaluates faults NoMemory
    spent_by [] = inr refl
    spent_by (fault ∷ faults) = inr refl
spent Check b = inr refl
spent Solo b = (inr refl, λ faulty same. cc same)

done : (command : Command) (b : Bundle) (log : List Event) → IsDone command b log → Completes command b Done
done Eval b log h = subst (λ faults. Evaluates faults Done) (sym h.0) (inl refl)
done Check b log h = inl refl
done Solo b log h = (inl refl, λ faulty same. faulty h.faultless)

first_fault : (faults : List (Arisen (List ℕ))) (a : Arisen (List ℕ)) → slice_get faults 0 ≡ Some a → Evaluates faults (TransformFault a.vertex a.kind a.rec)
first_fault [] a h = cc h
first_fault (fault ∷ faults) a h =
    let same : fault ≡ a = cc h in
    inl (ap (λ x. TransformFault x.vertex x.kind x.rec) (sym same))

faulty : (command : Command) (b : Bundle) (log : List Event) (text : List ℕ) (a : Arisen (List ℕ)) → Ends command b (TransformFault a.vertex a.kind a.rec) log text → Completes command b (TransformFault a.vertex a.kind a.rec)
faulty Eval b log text a h = first_fault (job_faults b.job) a h.0
faulty Check b log text a h = absurd h.0
faulty Solo b log text a h = absurd h.0

-- where no read fails and the content is a bundle whose DAG is valid, an answer is one that it must be
pub completes : (call : Call) (command : Command) (b : Bundle) (status : Status) (log : List Event) (text : List ℕ) → Brings call.words call.before command b → ¬ Rose call.faults_before call.faults_after → Answers call status log text → Completes command b status
completes call command b Done log text brings well h = of_reads call command b brings Done log text (λ log text ends. done command b log ends.0) h
completes call command b Usage log text brings well h = cc (h.0, brings.asked)
completes call command b ReadFault log text brings well h = absurd (well h.2.rose)
completes call command b WriteFault log text brings well h = absurd h
completes call command b NotJson log text brings well h = absurd (h.4.0 brings.bundle.0 (subst (λ xs. IsJson xs brings.bundle.0) (sym (bytes_are call command b brings h.1 h.3)) brings.bundle.1))
completes call command b TooLong log text brings well h =
    let part : length h.1 ≤ length brings.bytes = part_of brings.bytes h.1 call.after (subst (λ o. Consumes o call.after h.1) brings.told h.2.taken) in
    absurd (omega (arith, part, h.2.many, brings.few))
completes call command b (BundleRefused code place) log text brings well h =
    let refusal = h.4.0 in
    let given = value_gives call command b brings h.1 refusal.0 h.3 refusal.1 in
    let same = one_command call.words h.0 command h.2 brings.asked in
    let refused = subst (λ c. bundle_for c refusal.0 ≡ Err (record { code = code; place = place })) same refusal.2 in
    absurd (cc (given, refused))
completes call command b (DagRefused clause index) log text brings well h = of_reads call command b brings (DagRefused clause index) log text (λ log text ends. absurd (proposes_right b clause index brings.valid ends.1)) h
completes call command b (TransformFault name kind rec) log text brings well h = of_reads call command b brings (TransformFault name kind rec) log text (λ log text ends. faulty command b log text (record { vertex = name; kind = kind; rec = rec }) ends) h
completes call command b NoMemory log text brings well h = spent command b

-- and still is, once no write fails
pub written_completes : {T E : Type 0} (call : Call) (command : Command) (b : Bundle) (reached status : Status) (log : List Event) (text : List ℕ) (before after : ℕ) (r : Result T E) → Answers call reached log text → OnOk r (status ≡ reached)
    → HasCause before after r → Brings call.words call.before command b → ¬ Rose call.faults_before call.faults_after → ¬ Rose before after → Completes command b status
written_completes call command b reached status log text before after (Ok t) h kept cause brings read written = subst (Completes command b) (sym kept) (completes call command b reached log text brings read h)
written_completes call command b reached status log text before after (Err e) h kept cause brings read written = absurd (written cause)
