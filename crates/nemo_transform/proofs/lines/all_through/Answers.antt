use Rattle.std.proofs.Common.{◌≡◌, ◌∙◌, ◌+◌, ◌-◌, ◌++◌, None, true, sym, ap, map, take, drop, arith}
use Rattle.std.proofs.lemmas.List.Elements.{All-map}
use Rattle.std.proofs.Math.Seq.{take-add}
use Rattle.nemo_transform.specs.RowByRow.{goes_by_row}
use Rattle.nemo_transform.proofs.PartsThrough.{all_alone, part_more}
use Rattle.nemo_transform.proofs.lines.all_through.Goals as goal

pub loop-start-init : goal.loop-start-init
loop-start-init c = record {
  within = omega arith;
  through = (λ i. record { rows = c.new.ensures i; first = None }) ∙ sym (all_alone c.args.place (map (λ t. t.now) c.args.line.now) None (All-map (λ t. goes_by_row t ≡ true) (λ t. t.now) c.args.line.now c.requires.by_row));
}

pub loop-start-preserved : goal.loop-start-preserved
loop-start-preserved c =
    let line = map (λ t. t.now) c.args.line.now in
    let rows = c.args.rows.now in
    let start = c.loop-start.start in
    let count = c.min.result in
    let size : (start + count) - start ≡ count = omega arith in
    record {
      within = omega (arith, c.min.ensures, c.loop-start.invariant.within);
      through = part_more c.args.place line (take start rows) _ (take (start + count) rows) _ _ (All-map (λ t. goes_by_row t ≡ true) (λ t. t.now) c.args.line.now c.requires.by_row)
          (take-add start count rows ∙ ap (λ n. take start rows ++ take n (drop start rows)) (sym size)) c.loop-start.invariant.through c.in_ok-add_part.ensures;
    }
