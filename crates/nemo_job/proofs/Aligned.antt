-- The vertices of a job beside its copies: what reaches a sink is what its copy gives, and no other copy is a sink.
use Rattle.std.proofs.Common.{◌≡◌, ◌∙◌, ◌≤◌, ◌<◌, refl, sym, ap, subst, ℕ, suc, ◌+◌, ◌-◌, List, [], ◌∷◌, ◌++◌, map, length, cond, not, true, false, ◌||◌, Some, arith, append_assoc, length-append, drop, add-one, zero-add}
use Rattle.std.proofs.Math.Seq.{drop-cons}
use Rattle.std.proofs.lemmas.Bool.{or_parts}
use Rattle.std.proofs.lemmas.List.{append-nil, drop-drop, length-drop, length-map, map-append}
use Rattle.std.proofs.lemmas.List.Folds.{list_any-append}
use Rattle.std.specs.Cmp.Lexicographic.{nat_list_eq_equiv, same_text as same_bytes}
use Rattle.std.specs.List.{list_any}
use Rattle.nemo_value.specs.Texts.{same_text}
use Rattle.nemo_transform.specs.Brought.{port, nothing}
use Rattle.nemo_transform.specs.declared.transform.Transform.{Transform}
use Rattle.nemo_transform.specs.declared.transform.Transform.TheVariants.{Sink}
use Rattle.nemo_job.specs.ByPlace.{ByPlace, Placed, values}
use Rattle.nemo_job.specs.Fitting.{does_fit, fits}
use Rattle.nemo_transform.specs.Sinks.{does_sink}
use Rattle.nemo_job.specs.Mean.{ByPath, mean, ports_at}
use Rattle.nemo_job.specs.Refusals.{IsJob, has_double, has_name, is_good}
use Rattle.nemo_job.specs.Sinks.{is_sink, reaching}
use Rattle.nemo_job.specs.Sites.{Doing, Does, Loops, Face, face_of, faces, sites_after, standing, working}
use Rattle.nemo_job.specs.Unrolled.{Bound, Copy, Fed, Scope, at_start, bind, copied, fed_by, path_at, placed_copies, placed_copy, unroll_all, unroll_vertex, unroll_work, unrolled}
use Rattle.nemo_job.specs.declared.vertex.JobVertex.{JobVertex}
use Rattle.nemo_job.specs.declared.vertex.Ref.{Ref}
use Rattle.nemo_job.specs.declared.vertex.Work.{Work}
use Rattle.nemo_job.specs.declared.vertex.Work.TheVariants.{Op, Loop}
use Rattle.nemo_job.proofs.FineSites.{AllFine, fine_left, fine_right, fine_sites}
use Rattle.nemo_job.proofs.Growing.{copy_of}
use Rattle.nemo_job.proofs.Induction.{each_work}
use Rattle.nemo_job.proofs.Layers.{op_unrolled, op_works, vertex_stands, vertex_unrolled}
use Rattle.nemo_job.proofs.LoopCopies.{NoSinks, loop_adds_none}
use Rattle.nemo_job.proofs.Natural.{renamed}
use Rattle.nemo_job.proofs.UnrolledMean.{brought, entry_in}
use Rattle.nemo_job.proofs.Values.{length_values}

-- vertices beside copies and what these give
pub data Aligned (reach : JobVertex → ByPath) (f : ℕ → List ℕ) : List JobVertex → List Placed → List ByPlace → Type 0 where
  none : (bs : List ByPlace) → Aligned reach f [] [] bs
  other : (v : JobVertex) {vs : List JobVertex} {ps : List Placed} {bs : List ByPlace}
      → is_sink v.work ≡ false → Aligned reach f vs ps bs → Aligned reach f (v ∷ vs) ps bs
  copy : (p : Placed) (b : ByPlace) {vs : List JobVertex} {ps : List Placed} {bs : List ByPlace}
      → does_sink p.transform ≡ false → Aligned reach f vs ps bs → Aligned reach f vs (p ∷ ps) (b ∷ bs)
  sink : (v : JobVertex) (p : Placed) (b : ByPlace) {vs : List JobVertex} {ps : List Placed} {bs : List ByPlace}
      → is_sink v.work ≡ true → p.transform ≡ Sink v.name → reach v ≡ renamed f b → Aligned reach f vs ps bs → Aligned reach f (v ∷ vs) (p ∷ ps) (b ∷ bs)

-- copies of which none is a sink
pass_all : (reach : JobVertex → ByPath) (f : ℕ → List ℕ) (vs : List JobVertex) (cs : List Copy) (ps : List Placed) (bs : List ByPlace) → NoSinks cs → length cs ≤ length bs
    → Aligned reach f vs ps (drop (length cs) bs) → Aligned reach f vs (map placed_copy cs ++ ps) bs
pass_all reach f vs [] ps bs sinks low a = a
pass_all reach f vs (c ∷ cs) ps [] sinks low a = absurd (omega arith)
pass_all reach f vs (c ∷ cs) ps (b ∷ bs) sinks low a = copy (placed_copy c) b sinks.0 (pass_all reach f vs cs ps bs sinks.1 (omega arith) a)

---- the names of a list

-- a name that is new finds what is bound next
ports_bound : (f : ℕ → List ℕ) (vals : List ByPlace) (names : List Bound) (b : Bound) (more : List Bound) → list_any (λ c. same_text c.name b.name) names ≡ false
    → ports_at b.name (map (entry_in f vals) (names ++ b ∷ more)) ≡ map (brought f vals) b.ports
ports_bound f vals [] b more new = ap (λ is. cond is (map (brought f vals) b.ports) (ports_at b.name (map (entry_in f vals) more))) (nat_list_eq_equiv.refl b.name)
ports_bound f vals (c ∷ names) b more new =
    let parts = or_parts (same_text c.name b.name) (list_any (λ d. same_text d.name b.name) names) new in
    ap (λ is. cond is (map (brought f vals) c.ports) (ports_at b.name (map (entry_in f vals) (names ++ b ∷ more)))) parts.0 ∙ ports_bound f vals names b more parts.1

-- names are only added to
names_more : (vs : List JobVertex) (path : List ℕ) (s : Scope) → (more : List Bound) × ((unroll_all vs path s).names ≡ s.names ++ more)
names_more [] path s = ([], sym (append-nil s.names))
names_more (v ∷ vs) path s =
    let t = unroll_vertex v path s in
    let b : Bound = record { name = v.name; ports = (unroll_work v.work (path ++ v.name) (fed_by v.inputs s)).ports } in
    let here : t.names ≡ s.names ++ b ∷ [] = ap (λ u. u.names) (vertex_unrolled v path s) in
    let rest = names_more vs path t in
    (b ∷ rest.0, rest.1 ∙ ap (λ l. l ++ rest.0) here ∙ append_assoc s.names (b ∷ []) rest.0)

-- what stands before has the same names as what is bound
abbrev pub SameNames : List Face → List Bound → Type 0
SameNames before names = (q : List ℕ) → list_any (has_name q) before ≡ list_any (λ b. same_text b.name q) names

face_name : (name : List ℕ) (d : Doing) → (face_of name d).name ≡ name
face_name name (Does t) = refl
face_name name (Loops turns carry body next) = refl

pub vertex_face : (v : JobVertex) → (standing v).face.name ≡ v.name
vertex_face v = ap (λ st. st.face.name) (vertex_stands v) ∙ face_name v.name (working v.work).doing

same_more : (before : List Face) (s : Scope) (v : JobVertex) → SameNames before s.names → SameNames (before ++ (standing v).face ∷ []) (unroll_vertex v [] s).names
same_more before s v same q =
    let b : Bound = record { name = v.name; ports = (unroll_work v.work v.name (fed_by v.inputs s)).ports } in
    list_any-append (has_name q) before ((standing v).face ∷ [])
    ∙ (λ i. same q i || (same_text (vertex_face v i) q || false))
    ∙ sym (list_any-append (λ c. same_text c.name q) s.names (b ∷ []))
    ∙ ap (λ t. list_any (λ c. same_text c.name q) t.names) (sym (vertex_unrolled v [] s))

---- the walk

module _ (vs : List JobVertex) (h : IsJob vs) (meant : mean vs ≡ map (entry_in (path_at vs) (values (placed_copies vs))) (unroll_all vs [] at_start).names) where
  abbrev Along : List JobVertex → List Placed → List ByPlace → Type 0
  Along = Aligned (reaching vs) (path_at vs)

  -- the copies that are made after a scope, beside the vertices that follow there
  abbrev After : List JobVertex → Scope → Type 0
  After rest s = (cs : List Copy) × (unrolled vs ≡ s.copies.made ++ cs) × Along rest (map placed_copy cs) (drop (length s.copies.made) (values (placed_copies vs)))

  valued : length (values (placed_copies vs)) ≡ length (unrolled vs)
  valued = length_values [] (placed_copies vs) ∙ zero-add (length (placed_copies vs)) ∙ length-map (unrolled vs) placed_copy

  reached : (v : JobVertex) (rest : List JobVertex) (s : Scope) (f : Fed) (k : ℕ) → list_any (λ c. same_text c.name v.name) s.names ≡ false → f.ports ≡ Some k ∷ []
      → unroll_all rest [] (bind s.names v.name f) ≡ unroll_all vs [] at_start → reaching vs v ≡ renamed (path_at vs) (port (values (placed_copies vs)) k)
  reached v rest s f k new one ends =
      let vals = values (placed_copies vs) in
      let b : Bound = record { name = v.name; ports = f.ports } in
      let more = names_more rest [] (bind s.names v.name f) in
      let names : (unroll_all vs [] at_start).names ≡ s.names ++ b ∷ more.0 = ap (λ t. t.names) (sym ends) ∙ more.1 ∙ append_assoc s.names (b ∷ []) more.0 in
      let ports : ports_at v.name (mean vs) ≡ map (brought (path_at vs) vals) f.ports =
      ap (ports_at v.name) (meant ∙ ap (map (entry_in (path_at vs) vals)) names) ∙ ports_bound (path_at vs) vals s.names b more.0 new in
      ap (λ ps. port ps 0) (ports ∙ ap (map (brought (path_at vs) vals)) one)

  op_aligned : (t : Transform) (name : List ℕ) (inputs : List Ref) (places : List ℕ) (b : ByPlace) (rest : List JobVertex) (ps : List Placed) (bs : List ByPlace)
      → fits name (length inputs) t ≡ true → reaching vs (record { name = name; work = Op t; inputs = inputs }) ≡ renamed (path_at vs) b → Along rest ps bs
      → Along (record { name = name; work = Op t; inputs = inputs } ∷ rest) (record { transform = t; inputs = places } ∷ ps) (b ∷ bs)
  op_aligned (Sink own) name inputs places b rest ps bs fit reach a =
      sink (record { name = name; work = Op (Sink own); inputs = inputs }) (record { transform = Sink own; inputs = places }) b refl
      (ap Sink (same_bytes own name (sym fit))) reach a
  op_aligned t name inputs places b rest ps bs fit reach a =
      other (record { name = name; work = Op t; inputs = inputs }) refl (copy (record { transform = t; inputs = places }) b refl a)

  -- from what is made after a vertex to what is made from it on
  abbrev Steps : Work → Type 0
  Steps w = (name : List ℕ) (inputs : List Ref) (rest : List JobVertex) (s : Scope) → AllFine ((working w).sites 0) → does_fit name (length inputs) (working w).doing ≡ true
      → not (is_good 0 (working w).doing) ≡ false → list_any (λ c. same_text c.name name) s.names ≡ false
      → unroll_all rest [] (bind s.names name (unroll_work w name (fed_by inputs s))) ≡ unroll_all vs [] at_start
      → After rest (bind s.names name (unroll_work w name (fed_by inputs s))) → After (record { name = name; work = w; inputs = inputs } ∷ rest) s

  op_steps : (t : Transform) → Steps (Op t)
  op_steps t name inputs rest s fine fit good new ends after =
      let v : JobVertex = record { name = name; work = Op t; inputs = inputs } in
      let vals = values (placed_copies vs) in
      let f = fed_by inputs s in
      let g = copied name t f in
      let c = copy_of name t f in
      let n = length s.copies.made in
      let fits_op : fits name (length inputs) t ≡ true = subst (λ w. does_fit name (length inputs) w.doing ≡ true) (op_works t) fit in
      let ended : unroll_all rest [] (bind s.names name g) ≡ unroll_all vs [] at_start =
      subst (λ fed. unroll_all rest [] (bind s.names name fed) ≡ unroll_all vs [] at_start) (op_unrolled t name f) ends in
      let later : After rest (bind s.names name g) = subst (λ fed. After rest (bind s.names name fed)) (op_unrolled t name f) after in
      let cs = later.0 in
      let made : unrolled vs ≡ s.copies.made ++ c ∷ cs = later.1 ∙ append_assoc s.copies.made (c ∷ []) cs in
      let sum : length (unrolled vs) ≡ n + length (c ∷ cs) = ap length made ∙ length-append s.copies.made (c ∷ cs) in
      let all : length vals ≡ length (unrolled vs) = valued in
      let low : n < length vals = omega arith in
      let size : length (s.copies.made ++ c ∷ []) ≡ suc n = length-append s.copies.made (c ∷ []) ∙ add-one n in
      let here : drop n vals ≡ port vals n ∷ drop (suc n) vals = drop-cons vals n nothing low in
      let others : Along rest (map placed_copy cs) (drop (suc n) vals) = subst (λ m. Along rest (map placed_copy cs) (drop m vals)) size later.2 in (
        c ∷ cs,
        made,
        subst (Along (v ∷ rest) (map placed_copy (c ∷ cs))) (sym here)
            (op_aligned t name inputs (placed_copy c).inputs (port vals n) rest (map placed_copy cs) (drop (suc n) vals) fits_op (reached v rest s g n new refl ended) others),
      )

  loop_steps : (turns : ℕ) (carry : List (List ℕ)) (body : List JobVertex) (next : List Ref) → Steps (Loop turns carry body next)
  loop_steps turns carry body next name inputs rest s fine fit good new ends after =
      let v : JobVertex = record { name = name; work = Loop turns carry body next; inputs = inputs } in
      let vals = values (placed_copies vs) in
      let old = s.copies.made in
      let made_then = (unroll_work (Loop turns carry body next) name (fed_by inputs s)).copies.made in
      let adds : (more : List Copy) × (made_then ≡ old ++ more) × NoSinks more = loop_adds_none turns carry body next 0 fine good name (fed_by inputs s) in
      let more = adds.0 in
      let cs = after.0 in
      let made : unrolled vs ≡ old ++ (more ++ cs) = after.1 ∙ ap (λ l. l ++ cs) adds.1 ∙ append_assoc old more cs in
      let sum : length (unrolled vs) ≡ length old + length (more ++ cs) = ap length made ∙ length-append old (more ++ cs) in
      let parts : length (more ++ cs) ≡ length more + length cs = length-append more cs in
      let all : length vals ≡ length (unrolled vs) = valued in
      let left : length (drop (length old) vals) ≡ length vals - length old = length-drop (length old) vals in
      let enough : length more ≤ length (drop (length old) vals) = omega arith in
      let size : length made_then ≡ length old + length more = ap length adds.1 ∙ length-append old more in
      let where_left : drop (length made_then) vals ≡ drop (length more) (drop (length old) vals) =
      ap (λ m. drop m vals) size ∙ sym (drop-drop (length more) (length old) vals) in (
        more ++ cs,
        made,
        other v refl (subst (λ ps. Along rest ps (drop (length old) vals)) (sym (map-append placed_copy more cs))
            (pass_all (reaching vs) (path_at vs) rest more (map placed_copy cs) (drop (length old) vals) adds.2 enough
            (subst (Along rest (map placed_copy cs)) where_left after.2))),
      )

  each_steps : (w : Work) → Steps w
  each_steps = each_work Steps (λ v. Unit {0}) op_steps (λ turns carry body next ih. loop_steps turns carry body next) (λ v ih. tt)

  walk : (rest : List JobVertex) (before : List Face) (s : Scope) → SameNames before s.names → AllFine (sites_after before 0 (map standing rest))
      → unroll_all rest [] s ≡ unroll_all vs [] at_start → After rest s
  walk [] before s same fine ends =
      ([], ap (λ t. t.copies.made) (sym ends) ∙ sym (append-nil s.copies.made), none (drop (length s.copies.made) (values (placed_copies vs))))
  walk (v ∷ rest) before s same fine ends =
      let t = unroll_vertex v [] s in
      let from = faces (map standing (v ∷ rest)) in
      let after = before ++ (standing v).face ∷ [] in
      let here = (standing v).sites before from 0 in
      let later = sites_after after 0 (map standing rest) in
      let site = subst (λ st. AllFine (st.sites before from 0)) (vertex_stands v) (fine_left here later fine) in
      let new = (or_parts (list_any (has_name v.name) before) (has_double (working v.work).doing) site.0.single).0 in
      let e = vertex_unrolled v [] s in
      each_steps v.work v.name v.inputs rest s site.1 site.0.fitting site.0.good (sym (same v.name) ∙ new)
      (ap (unroll_all rest []) (sym e) ∙ ends)
      (subst (After rest) e (walk rest after t (same_more before s v same) (fine_right here later fine) ends))

  pub aligned : Along vs (placed_copies vs) (values (placed_copies vs))
  aligned =
      let all = walk vs [] at_start (λ q. refl) (fine_sites vs h) refl in
      subst (λ ps. Along vs ps (values (placed_copies vs))) (ap (map placed_copy) (sym all.1)) all.2
