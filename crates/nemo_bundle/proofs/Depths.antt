-- The body of a vertex is less deep than the vertex, so that its depth is enough to read it.
use Rattle.std.proofs.Common.{◌≡◌, refl, sym, ap, ◌∙◌, ℕ, ℤ, zero, suc, ◌+◌, ◌≤◌, List, length, Option, Some, None, option_map, option_and_then, Bool, true, false, if◌then◌else◌, Result, Ok, Err, Ordering, Less, Equal, Greater, codes, arith}
use Rattle.std.specs.Ordering.{nat_cmp, match_ordering}
use Rattle.std.specs.Cmp.Lexicographic.{slice_cmp}
use Rattle.serde_json.specs.Data.{Data, null, boolean, number, string, array, object, Items, no_items, item, Members, no_members, member, depth, items_depth, members_depth}
use Rattle.serde_json.specs.Find.{get_member, as_array, as_str}
use Rattle.nemo_value.specs.Texts.{same_text}
use Rattle.nemo_transform.specs.declared.transform.Transform.{Transform}
use Rattle.nemo_job.specs.declared.vertex.JobVertex.{JobVertex}
use Rattle.nemo_job.specs.declared.vertex.Ref.{Ref}
use Rattle.nemo_job.specs.declared.vertex.Work.{Work}
use Rattle.nemo_read.specs.Operations.{operation_of}
use Rattle.nemo_read.specs.Parts.{array_of, member_of, name_of, whole_of}
use Rattle.nemo_read.specs.Vertices.{Form, Does, Loops, Head, LoopForm, body_of, form_by, head_named, head_of, head_with, inputs_of, loop_of, loop_with, ref_of, transform_of, work_around}
use Rattle.nemo_bundle.specs.Answers.{Walks, on_ok}
use Rattle.nemo_bundle.specs.Ends.{vertex_read}
use Rattle.nemo_bundle.specs.Vertices.{Walk, Walked, in_front, vertex_at, vertex_by, vertex_from, vertex_within, walk, with_body, work_by}
use Rattle.nemo_bundle.specs.declared.end.WalkEnd.{WalkEnd}
use Rattle.nemo_bundle.specs.declared.end.WalkEnd.TheVariants as end

-- what is there is so
abbrev IfThere : {X : Type 0} → (X → Type 0) → Option X → Type 0
IfThere P (Some x) = P x
IfThere P None = Unit {0}

then_there : {X Y : Type 0} (P : X → Type 0) (Q : Y → Type 0) (f : X → Option Y) (o : Option X) → IfThere P o → ((x : X) → P x → IfThere Q (f x)) → IfThere Q (option_and_then f o)
then_there P Q f (Some x) h g = g x h
then_there P Q f None h g = tt

any_there : {X : Type 0} (o : Option X) → IfThere (λ _. Unit {0}) o
any_there (Some x) = tt
any_there None = tt

chosen_depth : (n : ℕ) (o : Ordering) (p q r : Option Data) → IfThere (λ d. depth d ≤ n) p → IfThere (λ d. depth d ≤ n) q → IfThere (λ d. depth d ≤ n) r → IfThere (λ d. depth d ≤ n) (match_ordering o p q r)
chosen_depth n Less p q r h i j = h
chosen_depth n Equal p q r h i j = i
chosen_depth n Greater p q r h i j = j

member_depth : (n : ℕ) (k : List ℕ) (ms : Members) → members_depth ms ≤ n → IfThere (λ d. depth d ≤ n) (get_member k ms)
member_depth n k no_members h = tt
member_depth n k (member l e ms) h =
    let rest = member_depth n k ms (omega arith) in
    let first : depth e ≤ n = omega arith in
    chosen_depth n (slice_cmp nat_cmp k l) (get_member k ms) (Some e) (get_member k ms) rest first rest

array_depth : (n : ℕ) (d : Data) → depth d ≤ n → IfThere (λ ds. items_depth ds ≤ n) (as_array d)
array_depth n null h = tt
array_depth n (boolean b) h = tt
array_depth n (number x) h = tt
array_depth n (string s) h = tt
array_depth n (array ds) h = omega arith
array_depth n (object ms) h = tt

-- the items of the body of what a vertex does are at most n deep
abbrev IsBelow : ℕ → Form → Type 0
IsBelow n form = items_depth (body_of form) ≤ n

with_depth : (n : ℕ) (turns : Option ℤ) (body : Option Items) (carry : Option (List (List ℕ))) (next : Option (List Ref)) → IfThere (λ ds. items_depth ds ≤ n) body
    → IfThere (λ l. items_depth l.body ≤ n) (loop_with turns body carry next)
with_depth n (Some t) (Some b) (Some c) (Some x) h = h
with_depth n (Some t) (Some b) (Some c) None h = tt
with_depth n (Some t) (Some b) None x h = tt
with_depth n (Some t) None c x h = tt
with_depth n None b c x h = tt

loop_depth : (n : ℕ) (ms : Members) → members_depth ms ≤ n → IfThere (λ l. items_depth l.body ≤ n) (loop_of (object ms))
loop_depth n ms h =
    with_depth n (member_of (codes "turns") whole_of (object ms)) (member_of (codes "body") as_array (object ms)) (member_of (codes "carry") (array_of name_of) (object ms)) (member_of (codes "next") (array_of ref_of) (object ms))
    (then_there (λ d. depth d ≤ n) (λ ds. items_depth ds ≤ n) as_array (get_member (codes "body") ms) (member_depth n (codes "body") ms h) (array_depth n))

loops_depth : (n : ℕ) (o : Option LoopForm) → IfThere (λ l. items_depth l.body ≤ n) o → IfThere (IsBelow n) (option_map Loops o)
loops_depth n (Some l) h = h
loops_depth n None h = tt

does_depth : (n : ℕ) (o : Option Transform) → IfThere (IsBelow n) (option_map Does o)
does_depth n (Some t) = omega arith
does_depth n None = tt

either_depth : (n : ℕ) (b : Bool) (o p : Option Form) → IfThere (IsBelow n) o → IfThere (IsBelow n) p → IfThere (IsBelow n) (if b then o else p)
either_depth n true o p h k = h
either_depth n false o p h k = k

form_depth : (n : ℕ) (ms : Members) → members_depth ms ≤ n → (name : List ℕ) (inputs : ℕ) (word : List ℕ) → IfThere (IsBelow n) (form_by name inputs (object ms) word)
form_depth n ms h name inputs word =
    either_depth n (same_text word (codes "loop")) (option_map Loops (loop_of (object ms))) (option_map Does (option_and_then (transform_of name inputs (object ms)) (operation_of word)))
    (loops_depth n (loop_of (object ms)) (loop_depth n ms h)) (does_depth n (option_and_then (transform_of name inputs (object ms)) (operation_of word)))

-- so is that of a head
abbrev HeadBelow : ℕ → Head → Type 0
HeadBelow n h = IsBelow n h.form

with_form : (n : ℕ) (name : List ℕ) (inputs : List Ref) (form : Option Form) → IfThere (IsBelow n) form → IfThere (HeadBelow n) (head_with name inputs form)
with_form n name inputs (Some form) h = h
with_form n name inputs None h = tt

abbrev any : {X : Type 0} → X → Type 0
any x = Unit {0}

object_depth : (n : ℕ) (ms : Members) → members_depth ms ≤ n → IfThere (HeadBelow n) (head_of (object ms))
object_depth n ms h =
    let d = object ms in
    then_there any (HeadBelow n) (head_named d) (member_of (codes "name") name_of d) (any_there (member_of (codes "name") name_of d))
    (λ name x. then_there any (HeadBelow n) (λ inputs. head_with name inputs (option_and_then (form_by name (length inputs) d) (member_of (codes "op") as_str d))) (inputs_of d) (any_there (inputs_of d))
    (λ inputs y. with_form n name inputs (option_and_then (form_by name (length inputs) d) (member_of (codes "op") as_str d))
    (then_there any (IsBelow n) (form_by name (length inputs) d) (member_of (codes "op") as_str d) (any_there (member_of (codes "op") as_str d)) (λ word z. form_depth n ms h name (length inputs) word))))

head_depth : (n : ℕ) (d : Data) → depth d ≤ suc n → IfThere (HeadBelow n) (head_of d)
head_depth n null h = tt
head_depth n (boolean b) h = tt
head_depth n (number x) h = tt
head_depth n (string s) h = tt
head_depth n (array ds) h = tt
head_depth n (object ms) h = object_depth n ms (omega arith)

no_head : (d : Data) → depth d ≤ 0 → head_of d ≡ None
no_head null h = refl
no_head (boolean b) h = refl
no_head (number x) h = refl
no_head (string s) h = refl
no_head (array ds) h = absurd (omega arith)
no_head (object ms) h = absurd (omega arith)

-- two readings that agree on what is at most n deep
module _ (f g : ℕ → Data → Walk JobVertex) (n : ℕ) (same : (i : ℕ) (d : Data) → depth d ≤ n → f i d ≡ g i d) where
  rest_same : (ds : Items) → ((i : ℕ) → walk f i ds ≡ walk g i ds) → (r : Walk JobVertex)
      → on_ok r (λ v. on_ok (walk f v.next ds) (in_front v.made)) ≡ on_ok r (λ v. on_ok (walk g v.next ds) (in_front v.made))
  rest_same ds h (Ok v) = ap (λ r. on_ok r (in_front v.made)) (h v.next)
  rest_same ds h (Err i) = refl

  walk_same : (i : ℕ) (ds : Items) → items_depth ds ≤ n → walk f i ds ≡ walk g i ds
  walk_same i no_items h = refl
  walk_same i (item d ds) h =
      ap (λ r. on_ok r (λ v. on_ok (walk f v.next ds) (in_front v.made))) (same i d (omega arith)) ∙ rest_same ds (λ j. walk_same j ds (omega arith)) (g i d)

  from_same : (i : ℕ) (o : Option Head) → IfThere (HeadBelow n) o → vertex_from f i o ≡ vertex_from g i o
  from_same i (Some h) below = ap (λ r. on_ok r (with_body h)) (walk_same (i + 1) (body_of h.form) below)
  from_same i None below = refl

-- more than its depth makes no difference
within_more : (n m i : ℕ) (d : Data) → depth d ≤ n → n ≤ m → vertex_within n i d ≡ vertex_within m i d
unfolding vertex_within
within_more zero zero i d h k = refl
within_more zero (suc m) i d h k = sym (ap (vertex_from (vertex_within m) i) (no_head d h))
within_more (suc n) zero i d h k = absurd (omega arith)
within_more (suc n) (suc m) i d h k = from_same (vertex_within n) (vertex_within m) n (λ j e l. within_more n m j e l (omega arith)) i (head_of d) (head_depth n d h)

level_at : (n i : ℕ) (d : Data) → depth d ≡ n → vertex_within n i d ≡ vertex_from vertex_at i (head_of d)
unfolding vertex_within
level_at zero i d e = sym (ap (vertex_from vertex_at i) (no_head d (omega (arith, e))))
level_at (suc n) i d e = from_same (vertex_within n) vertex_at n (λ j f h. sym (within_more (depth f) n j f (omega arith) h)) i (head_of d) (head_depth n d (omega (arith, e)))

-- a vertex is its head with its body, whatever its depth
pub vertex_level : (i : ℕ) (d : Data) → vertex_at i d ≡ vertex_from vertex_at i (head_of d)
vertex_level i d = level_at (depth d) i d refl

-- a vertex is read as its work is
abbrev with_work : Head → Walked Work → Walk JobVertex
with_work h w = Ok (record { made = record { name = h.name; work = w.made; inputs = h.inputs }; next = w.next })

by_work : (h : Walked Head) → vertex_by vertex_at h ≡ on_ok (work_by vertex_at h.next h.made.form) (with_work h.made)
by_work h = go (walk vertex_at h.next (body_of h.made.form))
  where
    go : (r : Walk (List JobVertex)) → on_ok r (with_body h.made) ≡ on_ok (on_ok r (λ body. Ok (record { made = work_around h.made.form body.made; next = body.next }))) (with_work h.made)
    go (Ok b) = refl
    go (Err i) = refl

ends_on : (r : Walk Work) (k : Walked Work → Walk JobVertex) (e : WalkEnd) (f : Work → Walked Work) (g : JobVertex → Walked JobVertex)
    → Walks {X = Work} {Y = Walked Work} f (Err e) r → Walks {X = JobVertex} {Y = Walked JobVertex} g (Err e) (on_ok r k)
ends_on (Ok w) k (end.Malformed place) f g h = absurd (let e : Ok w ≡ Err h.0 = h.1 in cc)
ends_on (Err i) k (end.Malformed place) f g h = (h.0, (let e : Err i ≡ Err h.0 = h.1 in cc), h.2)
ends_on r k end.NoMemory f g h = tt

pub vertex_walks : (o : Walk Head) (h : Walked Head) (r : Result Work WalkEnd) (next : ℕ) → o ≡ Ok h
    → Walks {X = Work} {Y = Walked Work} (λ w. record { made = w; next = next }) r (work_by vertex_at h.next h.made.form)
    → Walks {X = JobVertex} {Y = Walked JobVertex} (λ v. record { made = v; next = next }) (vertex_read h.made.name h.made.inputs r) (on_ok o (vertex_by vertex_at))
vertex_walks o h (Ok w) next p q = ap (λ r. on_ok r (vertex_by vertex_at)) p ∙ by_work h ∙ ap (λ r. on_ok r (with_work h.made)) q
vertex_walks o h (Err e) next p q = rw (p, by_work h) (ends_on (work_by vertex_at h.next h.made.form) (with_work h.made) e (λ w. record { made = w; next = next }) (λ v. record { made = v; next = next }) q)
