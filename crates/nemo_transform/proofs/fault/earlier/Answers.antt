use Rattle.std.proofs.Common.{◌∙◌, ap, sym, Some}
use Rattle.std.specs.Prelude.{option_map}
use Rattle.nemo_transform.specs.ArisenOrder.{place_cmp}
use Rattle.nemo_transform.specs.FirstFault.{lesser_by, arisen_at}
use Rattle.nemo_transform.proofs.FirstFaults.{least_is}
use Rattle.nemo_transform.proofs.fault.earlier.Goals as goal

pub returns-in-Some-Some : goal.returns-in-Some-Some
returns-in-Some-Some c =
    ap (λ l. Some (arisen_at l)) c.min.ensures
    ∙ least_is c.in-Some-Some.x c.in-Some-Some.y
    ∙ sym (λ i. lesser_by place_cmp (option_map arisen_at (c.in-Some-Some.is-0 i)) (option_map arisen_at (c.in-Some-Some.is-1 i)))
