-- Vertices that are an Op for each flat vertex, of 1 to 64 tasks.
use Rattle.std.proofs.Common.{arith, ◌≡◌, ◌∙◌, ap, sym, refl, ℕ, zero, suc, ◌+◌, ◌<◌, ◌≤◌, List, [], ◌∷◌, ◌++◌, append-nil, append_assoc, length, map, cond, slice_get, slice_index_or, Some, length-append}
use Rattle.nemo_ir.specs.Along.{along, counted}
use Rattle.nemo_ir.specs.Nodes.{edge_at, is_utility, producer, resolve_step}
use Rattle.nemo_ir.specs.declared.dag.IrEdge.{IrEdge}
use Rattle.nemo_ir.specs.declared.dag.IrVertex.{IrVertex}
use Rattle.nemo_ir.specs.declared.dag.VertexKind.TheVariants.{Op}
use Rattle.nemo_ir.specs.declared.flat.FlatVertex.{FlatVertex}
use Rattle.nemo_flat.specs.FirstDag.{op_of}

-- 1 to 64
pub record IsTasks (n : ℕ) : Type 0 where
  pub some : 1 ≤ n
  pub few : n ≤ 64

pub record IsOp (u : IrVertex) (x : FlatVertex) : Type 0 where
  pub kind : u.kind ≡ Op x.transform
  pub tasks : IsTasks u.parallelism

-- an Op for each flat vertex
abbrev pub Stand : List IrVertex → List FlatVertex → Type 0
Stand [] [] = Unit {0}
Stand (u ∷ us) (x ∷ xs) = IsOp u x × Stand us xs
Stand [] (x ∷ xs) = ⊥
Stand (u ∷ us) [] = ⊥

pub stand_length : (us : List IrVertex) (xs : List FlatVertex) → Stand us xs → length us ≡ length xs
stand_length [] [] h = refl
stand_length (u ∷ us) (x ∷ xs) h = ap suc (stand_length us xs h.1)
stand_length [] (x ∷ xs) h = absurd h
stand_length (u ∷ us) [] h = absurd h

-- the vertex at a place, with the flat vertex for which it stands
pub record Pair (us : List IrVertex) (xs : List FlatVertex) (i : ℕ) : Type 0 where
  pub op : IrVertex
  pub copy : FlatVertex
  pub op_at : slice_get us i ≡ Some op
  pub copy_at : slice_get xs i ≡ Some copy
  pub stands : IsOp op copy

pub pair_at : (us : List IrVertex) (xs : List FlatVertex) → Stand us xs → (i : ℕ) → i < length xs → Pair us xs i
pair_at [] [] h i l = absurd (omega arith)
pair_at (u ∷ us) (x ∷ xs) h zero l = record { op = u; copy = x; op_at = refl; copy_at = refl; stands = h.0 }
pair_at (u ∷ us) (x ∷ xs) h (suc i) l = let p = pair_at us xs h.1 i (omega arith) in record { op = p.op; copy = p.copy; op_at = p.op_at; copy_at = p.copy_at; stands = p.stands }
pair_at [] (x ∷ xs) h i l = absurd h
pair_at (u ∷ us) [] h i l = absurd h

pub stand_more : (us : List IrVertex) (xs : List FlatVertex) (u : IrVertex) (x : FlatVertex) → Stand us xs → IsOp u x → Stand (us ++ u ∷ []) (xs ++ x ∷ [])
stand_more [] [] u x h o = (o, tt)
stand_more (v ∷ us) (y ∷ xs) u x h o = (h.0, stand_more us xs u x h.1 o)
stand_more [] (y ∷ xs) u x h o = absurd h
stand_more (v ∷ us) [] u x h o = absurd h

-- each Op resolves to itself
pub resolved_along : (es : List IrEdge) (done : List ℕ) (us : List IrVertex) (xs : List FlatVertex) → Stand us xs → along (resolve_step es) done us ≡ done ++ counted (length done) (length us)
resolved_along es done [] [] h = sym (append-nil done)
resolved_along es done (u ∷ us) (x ∷ xs) h =
    let own : resolve_step es done u ≡ length done = ap (λ k. cond (is_utility k) (slice_index_or done (producer (edge_at es (length done) 0)) 0) (length done)) h.0.kind in
    let longer : length (done ++ length done ∷ []) ≡ suc (length done) = let e : length (done ++ length done ∷ []) ≡ length done + 1 = length-append done (length done ∷ []) in omega arith in
    ap (λ n. along (resolve_step es) (done ++ n ∷ []) us) own
    ∙ resolved_along es (done ++ length done ∷ []) us xs h.1
    ∙ ap (λ n. (done ++ length done ∷ []) ++ counted n (length us)) longer
    ∙ append_assoc done (length done ∷ []) (counted (suc (length done)) (length us))
resolved_along es done [] (x ∷ xs) h = absurd h
resolved_along es done (u ∷ us) [] h = absurd h

-- those of the first DAG
pub first_stand : (xs : List FlatVertex) → Stand (map op_of xs) xs
first_stand [] = tt
first_stand (x ∷ xs) = (record { kind = refl; tasks = record { some = omega arith; few = omega arith } }, first_stand xs)
