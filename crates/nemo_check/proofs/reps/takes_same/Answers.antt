use Rattle.std.proofs.Common.{◌≡◌, ◌∙◌, ap, length}
use Rattle.nemo_ir.specs.Flat.{FlatForm}
use Rattle.nemo_ir.specs.Nodes.{deed_of, kinds_in}
use Rattle.nemo_ir.specs.Valid.{kinds_at}
use Rattle.nemo_check.proofs.Standing.{agree, differ}
use Rattle.nemo_check.proofs.reps.takes_same.Goals as goal

pub returns-then-port_count-len : goal.returns-then-port_count-len
returns-then-port_count-len c =
    let ports : c.port_count.result ≡ length (kinds_at c.args.candidate.now.flat.now c.args.u.now) =
    c.port_count.ensures ∙ ap (λ ts. length (kinds_in (deed_of ts c.args.u.now.kind))) (c.as_slice.ensures ∙ ap (λ (f : FlatForm). f.transforms) c.flat.view_is) in
    differ c.args.candidate.now.index c.args.v (kinds_at c.args.candidate.now.flat.now c.args.u.now) c.args.x.now.inputs _ _ ports c.len.ensures c.if-port_count-len.true

pub returns : goal.returns
returns c =
    let ports : c.port_count.result ≡ length (kinds_at c.args.candidate.now.flat.now c.args.u.now) =
    c.port_count.ensures ∙ ap (λ ts. length (kinds_in (deed_of ts c.args.u.now.kind))) (c.as_slice.ensures ∙ ap (λ (f : FlatForm). f.transforms) c.flat.view_is) in
    agree c.args.candidate.now.index c.args.v (kinds_at c.args.candidate.now.flat.now c.args.u.now) c.args.x.now.inputs _ _ _ _ c.as_slice-2.ensures
    c.ports_match.ensures ports c.len.ensures c.if-port_count-len.false
