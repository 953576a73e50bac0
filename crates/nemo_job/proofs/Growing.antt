-- The copies of a job's vertices are only added to, and each port stands for a copy that is there.
use Rattle.std.proofs.Common.{◌≡◌, ◌≤◌, ◌<◌, ◌∙◌, refl, sym, ap, subst, ℕ, zero, suc, ◌+◌, List, [], ◌∷◌, ◌++◌, length, map, get_or, cond, Bool, true, false, Option, Some, None, unwrap_or, arith, append_assoc, length-append}
use Rattle.std.specs.Prelude.{All}
use Rattle.std.proofs.lemmas.List.{append-nil}
use Rattle.std.proofs.lemmas.List.Elements.{All-append, All-cons, All-head, All-map, All-nil, All-tail, All-weaker}
use Rattle.std.proofs.lemmas.Simd.{map-map}
use Rattle.nemo_value.specs.Texts.{same_text}
use Rattle.nemo_transform.specs.declared.transform.Transform.{Transform}
use Rattle.nemo_job.specs.Mean.{turn_path, turns_from}
use Rattle.nemo_job.specs.Unrolled.{Bound, Copy, Fed, Ports, Scope, bind, bound, each, fed_by, ports_of, source_of, unroll_all, unroll_vertex, unroll_work}
use Rattle.nemo_job.specs.declared.vertex.JobVertex.{JobVertex}
use Rattle.nemo_job.specs.declared.vertex.Ref.{Ref}
use Rattle.nemo_job.specs.declared.vertex.Work.{Work}
use Rattle.nemo_job.specs.declared.vertex.Work.TheVariants.{Op, Loop}
use Rattle.nemo_job.proofs.Induction.{Each, each_one, each_vertex, each_work}
use Rattle.nemo_job.proofs.Layers.{loop_unrolled, op_unrolled, vertex_unrolled}

---- the turns of a loop

-- where a turn starts
abbrev pub turn_start : ℕ → List (List ℕ) → Fed → Scope
turn_start first carry f = record { copies = record { made = f.copies.made; next = first }; names = bound f.ports carry }

-- one turn, by the vertices of the body
abbrev pub turn_of : ℕ → List (List ℕ) → List JobVertex → List Ref → List ℕ → Fed → Fed
turn_of first carry body next path f = fed_by next (unroll_all body path (turn_start first carry f))

pub turns_unrolled : (turns : ℕ) (carry : List (List ℕ)) (body : List JobVertex) (next : List Ref) (path : List ℕ) (f : Fed)
    → unroll_work (Loop turns carry body next) path f ≡ turns_from 0 turns (λ i. turn_of f.copies.next carry body next (turn_path path i)) f
turns_unrolled turns carry body next path f =
    loop_unrolled turns carry body next path f
    ∙ (λ i. turns_from 0 turns (λ k g. fed_by next (each (map-map (λ v. v (turn_path path k)) unroll_vertex body i) (turn_start f.copies.next carry g))) f)

-- what each turn keeps stands after all
pub turns_keep : {S : Type 0} (P : S → Type 0) (f : ℕ → S → S) → ((i : ℕ) (s : S) → P s → P (f i s)) → (i n : ℕ) (s : S) → P s → P (turns_from i n f s)
turns_keep P f h i zero s p = p
turns_keep P f h i (suc n) s p = turns_keep P f h (i + 1) n (f i s) (h i s p)

---- the copies

-- copies were added
abbrev pub Grows : List Copy → List Copy → Type 0
Grows old new = (more : List Copy) × (new ≡ old ++ more)

pub grows_none : (cs : List Copy) → Grows cs cs
grows_none cs = ([], sym (append-nil cs))

pub grows_then : (a b c : List Copy) → Grows a b → Grows b c → Grows a c
grows_then a b c g h = (g.0 ++ h.0, h.1 ∙ ap (λ l. l ++ h.0) g.1 ∙ append_assoc a g.0 h.0)

pub grows_length : (a b : List Copy) → Grows a b → length a ≤ length b
grows_length a b g = let size : length b ≡ length a + length g.0 = ap length g.1 ∙ length-append a g.0 in omega arith

-- the copy that an operation adds
abbrev pub copy_of : List ℕ → Transform → Fed → Copy
copy_of path t f = record { path = path; number = f.copies.next; transform = t; inputs = map (λ p. unwrap_or p (length f.copies.made)) f.ports }

abbrev pub WorkGrows : Work → Type 0
WorkGrows w = (path : List ℕ) (f : Fed) → Grows f.copies.made (unroll_work w path f).copies.made

abbrev pub VertexGrows : JobVertex → Type 0
VertexGrows v = (path : List ℕ) (s : Scope) → Grows s.copies.made (unroll_vertex v path s).copies.made

body_grows : (vs : List JobVertex) → Each VertexGrows vs → (path : List ℕ) (s : Scope) → Grows s.copies.made (unroll_all vs path s).copies.made
body_grows [] h path s = grows_none s.copies.made
body_grows (v ∷ vs) h path s =
    let t = unroll_vertex v path s in
    grows_then s.copies.made t.copies.made (unroll_all vs path t).copies.made (h.0 path s) (body_grows vs h.1 path t)

op_grows : (t : Transform) → WorkGrows (Op t)
op_grows t path f = subst (λ g. Grows f.copies.made g.copies.made) (sym (op_unrolled t path f)) (copy_of path t f ∷ [], refl)

loop_grows : (turns : ℕ) (carry : List (List ℕ)) (body : List JobVertex) (next : List Ref) → Each VertexGrows body → WorkGrows (Loop turns carry body next)
loop_grows turns carry body next h path f =
    let first = f.copies.next in
    subst (λ g. Grows f.copies.made g.copies.made) (sym (turns_unrolled turns carry body next path f))
    (turns_keep (λ g. Grows f.copies.made g.copies.made) (λ i. turn_of first carry body next (turn_path path i))
    (λ i g p. grows_then f.copies.made g.copies.made (unroll_all body (turn_path path i) (turn_start first carry g)).copies.made p (body_grows body h (turn_path path i) (turn_start first carry g)))
    0 turns f (grows_none f.copies.made))

vertex_then : (v : JobVertex) → WorkGrows v.work → VertexGrows v
vertex_then v h path s =
    subst (λ t. Grows s.copies.made t.copies.made) (sym (vertex_unrolled v path s)) (h (path ++ v.name) (fed_by v.inputs s))

pub work_grows : (w : Work) (path : List ℕ) (f : Fed) → (more : List Copy) × ((unroll_work w path f).copies.made ≡ f.copies.made ++ more)
work_grows = each_work WorkGrows VertexGrows op_grows loop_grows vertex_then

pub vertex_grows : (v : JobVertex) (path : List ℕ) (s : Scope) → (more : List Copy) × ((unroll_vertex v path s).copies.made ≡ s.copies.made ++ more)
vertex_grows = each_vertex WorkGrows VertexGrows op_grows loop_grows vertex_then

pub all_grow : (vs : List JobVertex) (path : List ℕ) (s : Scope) → (more : List Copy) × ((unroll_all vs path s).copies.made ≡ s.copies.made ++ more)
all_grow vs = body_grows vs (each_one WorkGrows VertexGrows op_grows loop_grows vertex_then vs)

---- the ports

-- a port takes none, or one of the first n copies
abbrev pub Low : ℕ → Option ℕ → Type 0
Low n None = Unit {0}
Low n (Some place) = place < n

abbrev pub LowPorts : ℕ → Ports → Type 0
LowPorts n ports = All (Low n) ports

abbrev pub LowNames : ℕ → List Bound → Type 0
LowNames n names = All (λ b. LowPorts n b.ports) names

abbrev pub LowFed : Fed → Type 0
LowFed f = LowPorts (length f.copies.made) f.ports

abbrev pub LowScope : Scope → Type 0
LowScope s = LowNames (length s.copies.made) s.names

low_more : (m n : ℕ) → m ≤ n → (p : Option ℕ) → Low m p → Low n p
low_more m n more None h = tt
low_more m n more (Some place) h = omega arith

pub ports_more : (m n : ℕ) (ports : Ports) → m ≤ n → LowPorts m ports → LowPorts n ports
ports_more m n ports more h = All-weaker (Low m) (Low n) (low_more m n more) ports h

pub names_more : (m n : ℕ) (names : List Bound) → m ≤ n → LowNames m names → LowNames n names
names_more m n names more h = All-weaker (λ b. LowPorts m b.ports) (λ b. LowPorts n b.ports) (λ b. ports_more m n b.ports more) names h

low_at : (n : ℕ) (ports : Ports) (k : ℕ) → LowPorts n ports → Low n (get_or ports k None)
low_at n [] k h = tt
low_at n (p ∷ ports) zero h = All-head (Low n) p ports h
low_at n (p ∷ ports) (suc k) h = low_at n ports k (All-tail (Low n) p ports h)

low_named : (n : ℕ) (name : List ℕ) (names : List Bound) → LowNames n names → LowPorts n (ports_of name names)
low_named n name [] h = All-nil (Low n)
low_named n name (b ∷ names) h =
    go (same_text b.name name) (All-head (λ c. LowPorts n c.ports) b names h) (low_named n name names (All-tail (λ c. LowPorts n c.ports) b names h))
  where
    go : (is : Bool) → LowPorts n b.ports → LowPorts n (ports_of name names) → LowPorts n (cond is b.ports (ports_of name names))
    go true p q = p
    go false p q = q

pub fed_low : (refs : List Ref) (s : Scope) → LowScope s → LowFed (fed_by refs s)
fed_low refs s h =
    let n = length s.copies.made in
    All-map (Low n) (source_of s.names) refs
    (λ k d within. low_at n (ports_of (get_or refs k d).name s.names) (get_or refs k d).port (low_named n (get_or refs k d).name s.names h))

bound_low : (n : ℕ) (ports : Ports) (carry : List (List ℕ)) → LowPorts n ports → LowNames n (bound ports carry)
bound_low n [] carry h = All-nil (λ b. LowPorts n b.ports)
bound_low n (p ∷ ports) [] h = All-nil (λ b. LowPorts n b.ports)
bound_low n (p ∷ ports) (name ∷ carry) h =
    All-cons (λ b. LowPorts n b.ports) (record { name = name; ports = p ∷ [] }) (bound ports carry)
    (All-cons (Low n) p [] (All-head (Low n) p ports h) (All-nil (Low n))) (bound_low n ports carry (All-tail (Low n) p ports h))

pub start_low : (first : ℕ) (carry : List (List ℕ)) (f : Fed) → LowFed f → LowScope (turn_start first carry f)
start_low first carry f h = bound_low (length f.copies.made) f.ports carry h

bind_low : (s : Scope) (name : List ℕ) (f : Fed) → length s.copies.made ≤ length f.copies.made → LowScope s → LowFed f → LowScope (bind s.names name f)
bind_low s name f more h k =
    let n = length f.copies.made in
    All-append (λ b. LowPorts n b.ports) s.names (record { name = name; ports = f.ports } ∷ [])
    (names_more (length s.copies.made) n s.names more h)
    (All-cons (λ b. LowPorts n b.ports) (record { name = name; ports = f.ports }) [] k (All-nil (λ b. LowPorts n b.ports)))

abbrev pub WorkLow : Work → Type 0
WorkLow w = (path : List ℕ) (f : Fed) → LowFed f → LowFed (unroll_work w path f)

abbrev pub VertexLow : JobVertex → Type 0
VertexLow v = (path : List ℕ) (s : Scope) → LowScope s → LowScope (unroll_vertex v path s)

body_low : (vs : List JobVertex) → Each VertexLow vs → (path : List ℕ) (s : Scope) → LowScope s → LowScope (unroll_all vs path s)
body_low [] h path s low = low
body_low (v ∷ vs) h path s low = body_low vs h.1 path (unroll_vertex v path s) (h.0 path s low)

op_low : (t : Transform) → WorkLow (Op t)
op_low t path f low =
    let n = length f.copies.made in
    let m = length (f.copies.made ++ copy_of path t f ∷ []) in
    let size : m ≡ n + 1 = length-append f.copies.made (copy_of path t f ∷ []) in
    subst LowFed (sym (op_unrolled t path f)) (All-cons (Low m) (Some n) [] (let less : n < m = omega arith in less) (All-nil (Low m)))

loop_low : (turns : ℕ) (carry : List (List ℕ)) (body : List JobVertex) (next : List Ref) → Each VertexLow body → WorkLow (Loop turns carry body next)
loop_low turns carry body next h path f low =
    let first = f.copies.next in
    subst LowFed (sym (turns_unrolled turns carry body next path f))
    (turns_keep LowFed (λ i. turn_of first carry body next (turn_path path i))
    (λ i g p. fed_low next (unroll_all body (turn_path path i) (turn_start first carry g)) (body_low body h (turn_path path i) (turn_start first carry g) (start_low first carry g p)))
    0 turns f low)

vertex_low_then : (v : JobVertex) → WorkLow v.work → VertexLow v
vertex_low_then v h path s low =
    let f = fed_by v.inputs s in
    let g = unroll_work v.work (path ++ v.name) f in
    subst LowScope (sym (vertex_unrolled v path s))
    (bind_low s v.name g (grows_length s.copies.made g.copies.made (work_grows v.work (path ++ v.name) f)) low (h (path ++ v.name) f (fed_low v.inputs s low)))

pub work_low : (w : Work) (path : List ℕ) (f : Fed) → LowFed f → LowFed (unroll_work w path f)
work_low = each_work WorkLow VertexLow op_low loop_low vertex_low_then

pub vertex_low : (v : JobVertex) (path : List ℕ) (s : Scope) → LowScope s → LowScope (unroll_vertex v path s)
vertex_low = each_vertex WorkLow VertexLow op_low loop_low vertex_low_then

pub all_low : (vs : List JobVertex) (path : List ℕ) (s : Scope) → LowScope s → LowScope (unroll_all vs path s)
all_low vs = body_low vs (each_one WorkLow VertexLow op_low loop_low vertex_low_then vs)
