-- Rows that are held go through a line.
use Rattle.std.proofs.Common.{◌≡◌, ◌∙◌, ◌<◌, sym, ap, subst, ℕ, List, map, Option, Bor}
use Rattle.std.specs.Prelude.{All}
use Rattle.std.proofs.lemmas.List.{get_or-map, length-map}
use Rattle.std.proofs.lemmas.List.Elements.{All-map}
use Rattle.nemo_transform.specs.ArisenOrder.{place_cmp}
use Rattle.nemo_transform.specs.Brought.{Arisen}
use Rattle.nemo_transform.specs.FirstFault.{lesser_by}
use Rattle.nemo_transform.specs.Gives.{Row}
use Rattle.nemo_transform.specs.Through.{Batch, all_through, clean}
use Rattle.nemo_transform.specs.declared.transform.Transform.{Transform}
use Rattle.nemo_transform.proofs.PartsThrough.{GoByRow, all_with}
use Rattle.nemo_job.specs.Held.{transform_of}
use Rattle.nemo_job.specs.declared.copies.Node.{Node}

-- what is so of vertices is so of their transforms, which are lent
pub so_lent : (P : Transform → Type 0) (line : List Node) (lent : List (Bor Transform)) → map (λ t. t.now) lent ≡ map transform_of line → All (λ n. P n.transform.now) line → All (λ t. P t.now) lent
so_lent P line lent same h = λ k d low.
    let all : All P (map (λ (t : Bor Transform). t.now) lent) = subst (All P) (sym same) (All-map P transform_of line h) in
    subst P (get_or-map (λ (t : Bor Transform). t.now) lent k d d.now low) (all k d.now (subst (λ n. k < n) (sym (length-map lent (λ t. t.now))) low))

-- rows that are held, with the fault that came with them
pub line_known : (place : ℕ) (ts : List Transform) (rows : List Row) (made k : Batch) (first fault : Option (Arisen ℕ)) → GoByRow ts → k ≡ record { rows = rows; first = fault }
    → made ≡ all_through place ts (clean rows) → first ≡ lesser_by place_cmp fault made.first → record { rows = made.rows; first = first } ≡ all_through place ts k
line_known place ts rows made k first fault h is m f =
    let least : first ≡ lesser_by place_cmp fault (all_through place ts (clean rows)).first = f ∙ ap (λ x. lesser_by place_cmp fault x.first) m in
    let both : record { rows = made.rows; first = first } ≡ record { rows = (all_through place ts (clean rows)).rows; first = lesser_by place_cmp fault (all_through place ts (clean rows)).first } =
    λ i. record { rows = (m i).rows; first = least i } in
    both ∙ sym (all_with place ts rows fault h) ∙ sym (ap (all_through place ts) is)
