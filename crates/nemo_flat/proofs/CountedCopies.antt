-- How many copies there are, and what stays as they are made.
use Rattle.std.proofs.Common.{rules, arith, ◌≡◌, refl, sym, ap, subst, ℕ, zero, suc, ◌+◌, ◌*◌, ◌≤◌, List, [], ◌∷◌, ◌++◌, Bool, true, false, ◌||◌, length, map, slice_get, cond, unwrap_or, None, Option, Some, length-append}
use Rattle.std.proofs.lemmas.List.Sums.{sum_by-cons}
use Rattle.std.proofs.lemmas.Simd.{map-map}
use Rattle.std.specs.List.{list_any}
use Rattle.nemo_ir.proofs.Places.{same_item}
use Rattle.nemo_transform.specs.declared.transform.Transform.{Transform}
use Rattle.nemo_transform.specs.declared.transform.Transform.TheVariants.{Sink}
use Rattle.nemo_transform.specs.Sinks.{does_sink}
use Rattle.nemo_job.specs.Mean.{turn_path, turns_from}
use Rattle.nemo_job.specs.Refusals.{IsJob}
use Rattle.nemo_job.specs.Sinks.{is_sink}
use Rattle.nemo_job.specs.Unrolled.{Copies, Copy, Fed, Scope, at_start, bound, copied, each, fed_by, turn, unroll_all, unroll_vertex, unroll_work, unrolled}
use Rattle.nemo_job.specs.declared.vertex.JobVertex.{JobVertex}
use Rattle.nemo_job.specs.declared.vertex.Ref.{Ref}
use Rattle.nemo_job.specs.declared.vertex.Work.{Work, the_lemmas}
use Rattle.nemo_job.specs.declared.vertex.Work.TheVariants.{Op, Loop}
use Rattle.nemo_job.proofs.FineSites.{has_sink}
use Rattle.nemo_job.proofs.Induction.{Each, each_one}
use Rattle.nemo_job.proofs.Layers.{loop_unrolled, op_unrolled, vertex_unrolled}
use Rattle.nemo_flat.specs.Counts.{copies, vertex_copies, work_copies}
use Rattle.nemo_flat.proofs.OneMore.{get_front, get_seam}

-- no copy has a number above its place
record IsLow (cs : Copies) : Type 0 where
  next : cs.next ≤ length cs.made
  numbers : (i : ℕ) (c : Copy) → slice_get cs.made i ≡ Some c → c.number ≤ i

-- so many copies more, behind those that there were; `first` is the number from which turns begin
record Adds (first count : ℕ) (old new : Copies) : Type 0 where
  size : length new.made ≡ length old.made + count
  front : (i : ℕ) (c : Copy) → slice_get old.made i ≡ Some c → slice_get new.made i ≡ Some c
  low : first ≤ length old.made → IsLow old → IsLow new

adds_none : (first : ℕ) (cs : Copies) → Adds first 0 cs cs
adds_none first cs = record { size = omega arith; front = λ i c e. e; low = λ l h. h }

adds_both : (first m n : ℕ) (a b c : Copies) → Adds first m a b → Adds first n b c → Adds first (m + n) a c
adds_both first m n a b c p q =
    let one : length b.made ≡ length a.made + m = p.size in
    let two : length c.made ≡ length b.made + n = q.size in
    record { size = omega arith; front = λ i x e. q.front i x (p.front i x e); low = λ l h. q.low (omega arith) (p.low l h) }

---- an operation

numbers_more : (k : ℕ) (made : List Copy) (c : Copy) → ((i : ℕ) (d : Copy) → slice_get made i ≡ Some d → d.number ≤ k + i) → c.number ≤ k + length made
    → (i : ℕ) (d : Copy) → slice_get (made ++ c ∷ []) i ≡ Some d → d.number ≤ k + i
numbers_more k [] c h l zero d e = subst (λ x. x.number ≤ k + 0) (same_item c d e) l
numbers_more k [] c h l (suc i) d e = cc
numbers_more k (x ∷ made) c h l zero d e = h 0 d e
numbers_more k (x ∷ made) c h l (suc i) d e =
    let r : d.number ≤ k + 1 + i = numbers_more (k + 1) made c (λ j y g. let low : y.number ≤ k + suc j = h (suc j) y g in omega arith) (omega arith) i d e in
    omega arith

op_adds : (path : List ℕ) (t : Transform) (f : Fed) → Adds 0 1 f.copies (copied path t f).copies
op_adds path t f =
    let own : Copy = record { path = path; number = f.copies.next; transform = t; inputs = map (λ p. unwrap_or p (length f.copies.made)) f.ports } in
    let more : length (f.copies.made ++ own ∷ []) ≡ length f.copies.made + 1 = length-append f.copies.made (own ∷ []) in
    record {
      size = more;
      front = λ i c e. get_front f.copies.made (own ∷ []) i c e;
      low = λ l h.
          let next : f.copies.next ≤ length f.copies.made = h.next in
          record {
            next = omega arith;
            numbers = λ i c e.
                let low : c.number ≤ 0 + i =
                numbers_more 0 f.copies.made own (λ j d g. let r : d.number ≤ j = h.numbers j d g in omega arith) (omega arith) i c e in
                omega arith;
          };
    }

---- vertices and loops

abbrev WorkAdds : Work → Type 0
WorkAdds w = (path : List ℕ) (f : Fed) → Adds 0 (work_copies w) f.copies (unroll_work w path f).copies

abbrev VertexAdds : JobVertex → Type 0
VertexAdds v = (path : List ℕ) (s : Scope) → Adds 0 (vertex_copies v) s.copies (unroll_vertex v path s).copies

abbrev run : List JobVertex → List ℕ → Scope → Scope
run vs path s = each (map (λ v. v path) (map unroll_vertex vs)) s

body_adds : (vs : List JobVertex) → Each VertexAdds vs → (path : List ℕ) (s : Scope) → Adds 0 (copies vs) s.copies (run vs path s).copies
body_adds [] h path s = adds_none 0 s.copies
body_adds (v ∷ vs) h path s =
    subst (λ n. Adds 0 n s.copies (run vs path (unroll_vertex v path s)).copies) (sym (sum_by-cons (λ (n : ℕ). n) (vertex_copies v) (map vertex_copies vs)))
    (adds_both 0 (vertex_copies v) (copies vs) s.copies (unroll_vertex v path s).copies (run vs path (unroll_vertex v path s)).copies (h.0 path s) (body_adds vs h.1 path (unroll_vertex v path s)))

-- each turn begins again with the number of the first operation
turn_adds : (carry : List (List ℕ)) (body : List JobVertex) (next : List Ref) → Each VertexAdds body → (first : ℕ) (path : List ℕ) (f : Fed)
    → Adds first (copies body) f.copies (turn first carry (map unroll_vertex body) next path f).copies
turn_adds carry body next h first path f =
    let begun : Scope = record { copies = record { made = f.copies.made; next = first }; names = bound f.ports carry } in
    let r : Adds 0 (copies body) begun.copies (run body path begun).copies = body_adds body h path begun in
    record { size = r.size; front = r.front; low = λ l g. r.low (omega arith) (record { next = l; numbers = g.numbers }) }

turns_add : (first count : ℕ) (make : ℕ → Fed → Fed) → ((i : ℕ) (f : Fed) → Adds first count f.copies (make i f).copies)
    → (n i : ℕ) (f : Fed) → Adds first (n * count) f.copies (turns_from i n make f).copies
turns_add first count make h zero i f = let none : 0 ≡ 0 * count = omega arith in subst (λ k. Adds first k f.copies f.copies) none (adds_none first f.copies)
turns_add first count make h (suc n) i f =
    let more : count + n * count ≡ suc n * count = omega arith in
    subst (λ k. Adds first k f.copies (turns_from (i + 1) n make (make i f)).copies) more
    (adds_both first count (n * count) f.copies (make i f).copies (turns_from (i + 1) n make (make i f)).copies (h i f) (turns_add first count make h n (i + 1) (make i f)))

loop_adds : (turns : ℕ) (carry : List (List ℕ)) (body : List JobVertex) (next : List Ref) → Each VertexAdds body → (path : List ℕ) (f : Fed)
    → Adds 0 (turns * copies body) f.copies (turns_from 0 turns (λ i. turn f.copies.next carry (map unroll_vertex body) next (turn_path path i)) f).copies
loop_adds turns carry body next h path f =
    let make : ℕ → Fed → Fed = λ i. turn f.copies.next carry (map unroll_vertex body) next (turn_path path i) in
    let r : Adds f.copies.next (turns * copies body) f.copies (turns_from 0 turns make f).copies =
    turns_add f.copies.next (copies body) make (λ i g. turn_adds carry body next h f.copies.next (turn_path path i) g) turns 0 f in
    record { size = r.size; front = r.front; low = λ l g. r.low g.next g }

op_count : (t : Transform) → work_copies (Op t) ≡ 1
op_count t = search (rules, the_lemmas)

loop_count : (turns : ℕ) (carry : List (List ℕ)) (body : List JobVertex) (next : List Ref) → work_copies (Loop turns carry body next) ≡ turns * copies body
loop_count turns carry body next = search (rules, the_lemmas)

vertex_count : (v : JobVertex) → vertex_copies v ≡ work_copies v.work
vertex_count v = search (rules, the_lemmas)

adds_as : (count own : ℕ) (old new there : Copies) → own ≡ count → there ≡ new → Adds 0 count old new → Adds 0 own old there
adds_as count own old new there e f h = subst (λ n. Adds 0 n old there) (sym e) (subst (Adds 0 count old) (sym f) h)

all_add : (vs : List JobVertex) → Each VertexAdds vs
all_add =
    each_one WorkAdds VertexAdds
    (λ t path f. adds_as 1 (work_copies (Op t)) f.copies (copied path t f).copies (unroll_work (Op t) path f).copies (op_count t) (ap (λ r. r.copies) (op_unrolled t path f)) (op_adds path t f))
    (λ turns carry body next h path f.
    adds_as (turns * copies body) (work_copies (Loop turns carry body next)) f.copies
    (turns_from 0 turns (λ i. turn f.copies.next carry (map unroll_vertex body) next (turn_path path i)) f).copies
    (unroll_work (Loop turns carry body next) path f).copies (loop_count turns carry body next)
    (ap (λ r. r.copies) (loop_unrolled turns carry body next path f)) (loop_adds turns carry body next h path f))
    (λ v h path s.
    adds_as (work_copies v.work) (vertex_copies v) s.copies (unroll_work v.work (path ++ v.name) (fed_by v.inputs s)).copies (unroll_vertex v path s).copies
    (vertex_count v) (ap (λ r. r.copies) (vertex_unrolled v path s)) (h (path ++ v.name) (fed_by v.inputs s)))

---- all copies

run_is : (vs : List JobVertex) (path : List ℕ) (s : Scope) → run vs path s ≡ unroll_all vs path s
run_is vs path s = ap (λ us. each us s) (map-map (λ v. v path) unroll_vertex vs)

all_adds : (vs : List JobVertex) → Adds 0 (copies vs) at_start.copies (unroll_all vs [] at_start).copies
all_adds vs = subst (λ s. Adds 0 (copies vs) at_start.copies s.copies) (run_is vs [] at_start) (body_adds vs (all_add vs) [] at_start)

pub count_is : (vs : List JobVertex) → length (unrolled vs) ≡ copies vs
count_is vs = let size : length (unrolled vs) ≡ 0 + copies vs = (all_adds vs).size in omega arith

pub number_low : (vs : List JobVertex) (i : ℕ) (c : Copy) → slice_get (unrolled vs) i ≡ Some c → c.number ≤ i
number_low vs i c e = ((all_adds vs).low (omega arith) (record { next = omega arith; numbers = λ j d g. absurd (cc g) })).numbers i c e

---- there is a sink

pub record HasSink (cs : List Copy) : Type 0 where
  pub place : ℕ
  pub copy : Copy
  pub is : slice_get cs place ≡ Some copy
  pub sinks : does_sink copy.transform ≡ true

sink_stays : (first count : ℕ) (old new : Copies) → Adds first count old new → HasSink old.made → HasSink new.made
sink_stays first count old new a s = record { place = s.place; copy = s.copy; is = a.front s.place s.copy s.is; sinks = s.sinks }

sink_made : (w : Work) (path : List ℕ) (f : Fed) → is_sink w ≡ true → HasSink (unroll_work w path f).copies.made
sink_made (Op (Sink name)) path f h =
    let own : Copy = record { path = path; number = f.copies.next; transform = Sink name; inputs = map (λ p. unwrap_or p (length f.copies.made)) f.ports } in
    subst (λ r. HasSink r.copies.made) (sym (op_unrolled (Sink name) path f)) (record { place = length f.copies.made; copy = own; is = get_seam f.copies.made own; sinks = refl })
sink_made _ path f h = cc

sink_run : (vs : List JobVertex) (path : List ℕ) (s : Scope) → list_any (λ v. is_sink v.work) vs ≡ true → HasSink (run vs path s).copies.made
sink_run [] path s h = cc
sink_run (v ∷ vs) path s h = go (is_sink v.work) refl h (sink_run vs path (unroll_vertex v path s))
  where
    go : (b : Bool) → is_sink v.work ≡ b → (b || list_any (λ u. is_sink u.work) vs) ≡ true
        → (list_any (λ u. is_sink u.work) vs ≡ true → HasSink (run vs path (unroll_vertex v path s)).copies.made) → HasSink (run vs path (unroll_vertex v path s)).copies.made
    go true e g ih =
        sink_stays 0 (copies vs) (unroll_vertex v path s).copies (run vs path (unroll_vertex v path s)).copies (body_adds vs (all_add vs) path (unroll_vertex v path s))
        (subst (λ r. HasSink r.copies.made) (sym (vertex_unrolled v path s)) (sink_made v.work (path ++ v.name) (fed_by v.inputs s) e))
    go false e g ih = ih g

pub some_sink : (vs : List JobVertex) → IsJob vs → HasSink (unrolled vs)
some_sink vs h = subst (λ s. HasSink s.copies.made) (run_is vs [] at_start) (sink_run vs [] at_start (found (list_any (λ v. is_sink v.work) vs) (has_sink vs h)))
  where
    found : (b : Bool) → cond {A = Option ℕ} b None (Some 0) ≡ None → b ≡ true
    found true e = refl
    found false e = cc
