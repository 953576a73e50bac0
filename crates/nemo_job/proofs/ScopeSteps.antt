-- One vertex more, and one turn more.
use Rattle.std.proofs.Common.{◌≡◌, ◌∙◌, ap, sym, refl, subst, ℕ, zero, suc, ◌+◌, ◌<◌, List, [], ◌∷◌, ◌++◌, length, map, take, get_or, Result, Ok, Err, arith}
use Rattle.std.specs.Result.{IfOk}
use Rattle.std.proofs.lemmas.List.{map_more}
use Rattle.nemo_value.proofs.JoinedLists.{map_map}
use Rattle.nemo_job.specs.Mean.{turns_from}
use Rattle.nemo_job.specs.NamesBound.{HasNames, IsScope, copies_of, fed}
use Rattle.nemo_job.specs.Unrolled.{Bound, Fed, Ports, Scope, bound, each, fed_by, source_of, turn, unroll_all, unroll_vertex}
use Rattle.nemo_job.specs.declared.copies.Copies.{Copies}
use Rattle.nemo_job.specs.declared.names.Names.{Names}
use Rattle.nemo_job.specs.declared.vertex.JobVertex.{JobVertex}
use Rattle.nemo_job.specs.declared.vertex.Ref.{Ref}
use Rattle.nemo_value.specs.declared.memory.NoMemory.{NoMemory}

each-append : (fs : List (Scope → Scope)) (f : Scope → Scope) (s : Scope) → each (fs ++ f ∷ []) s ≡ f (each fs s)
each-append [] f s = refl
each-append (g ∷ fs) f s = each-append fs f (g s)

unroll_all-more : (vs : List JobVertex) (i : ℕ) (v : JobVertex) (path : List ℕ) (s : Scope) → i < length vs → v ≡ get_or vs i v → unroll_all (take (i + 1) vs) path s ≡ unroll_vertex v path (unroll_all (take i vs) path s)
unroll_all-more vs i v path s l is =
    ap (λ fs. each fs s) (map_more (λ w. unroll_vertex w path) vs i v l) ∙ each-append (map (λ w. unroll_vertex w path) (take i vs)) (unroll_vertex (get_or vs i v) path) s
    ∙ ap (λ w. unroll_vertex w path (unroll_all (take i vs) path s)) (sym is)

-- the scope after one vertex more
pub scope_more : (vs : List JobVertex) (i : ℕ) (v : JobVertex) (path : List ℕ) (s : Scope) (old new : Copies) (before after : Names) → i < length vs → v ≡ get_or vs i v → IsScope (unroll_all (take i vs) path s) old before
    → ((bs : List Bound) → HasNames bs before → IsScope (unroll_vertex v path (record { copies = copies_of old; names = bs })) new after) → IsScope (unroll_all (take (i + 1) vs) path s) new after
scope_more vs i v path s old new before after l is so step =
    subst (λ r. IsScope r new after) (sym (unroll_all-more vs i v path s l is))
    (subst (λ c. IsScope (unroll_vertex v path (record { copies = c; names = (unroll_all (take i vs) path s).names })) new after) so.copies (step (unroll_all (take i vs) path s).names so.names))

turns_from-more : {S : Type 0} (k n : ℕ) (f : ℕ → S → S) (s : S) → turns_from k (suc n) f s ≡ f (k + n) (turns_from k n f s)
turns_from-more k zero f s = let here : k ≡ k + 0 = omega arith in ap (λ i. f i s) here
turns_from-more k (suc n) f s = let here : k + 1 + n ≡ k + suc n = omega arith in turns_from-more (k + 1) n f (f k s) ∙ ap (λ i. f i (turns_from (k + 1) n f (f k s))) here

-- one turn more of a loop
pub turn_more : {S : Type 0} (n : ℕ) (f : ℕ → S → S) (s : S) → f n (turns_from 0 n f s) ≡ turns_from 0 (n + 1) f s
turn_more n f s =
    let here : n ≡ 0 + n = omega arith in
    let next : suc n ≡ n + 1 = omega arith in
    ap (λ i. f i (turns_from 0 n f s)) here ∙ sym (turns_from-more 0 n f s) ∙ ap (λ m. turns_from 0 m f s) next

-- what one turn of a loop feeds
pub turn_fed : (first : ℕ) (carry : List (List ℕ)) (body : List JobVertex) (next : List Ref) (path : List ℕ) (f : Fed) (held : Copies) (by_name : Names) (r : Result Ports NoMemory)
    → IsScope (unroll_all body path (record { copies = record { made = f.copies.made; next = first }; names = bound f.ports carry })) held by_name
    → IfOk r (λ ports. (bs : List Bound) → HasNames bs by_name → ports ≡ map (source_of bs) next) → IfOk r (λ ports. fed held ports ≡ turn first carry (map unroll_vertex body) next path f)
turn_fed first carry body next path f held by_name (Ok ports) so gave =
    let s : Scope = record { copies = record { made = f.copies.made; next = first }; names = bound f.ports carry } in
    let after : Scope = unroll_all body path s in
    let gives : fed held ports ≡ fed_by next after = λ z. record { copies = so.copies z; ports = gave after.names so.names z } in
    gives ∙ ap (λ vs. fed_by next (each vs s)) (sym (map_map (λ v. v path) unroll_vertex body))
turn_fed first carry body next path f held by_name (Err e) so gave = tt
