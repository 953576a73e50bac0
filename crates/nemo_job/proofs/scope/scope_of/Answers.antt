use Rattle.std.proofs.Common.{rules, arith, ◌≡◌, ◌∙◌, sym, ap, ◌+◌, length, map, None}
use Rattle.std.proofs.lemmas.List.{length-map}
use Rattle.std.specs.Option.{option_or}
use Rattle.nemo_job.specs.Sites.{faces, port_face, standing}
use Rattle.nemo_job.specs.ByName.{named_in}
use Rattle.nemo_job.specs.Walks.{first_named}
use Rattle.nemo_job.proofs.Scoping.{first_join}
use Rattle.nemo_job.proofs.scope.scope_of.Goals as goal

pub returns : goal.returns
returns c = λ q.
    let ports = map port_face c.args.carry.now in
    let vertices = faces (map standing c.args.vertices.now) in
    let place : length c.args.carry.now ≡ 0 + length ports = omega (arith, length-map c.args.carry.now port_face) in
    let empty : named_in c.new-scope.result q ≡ None = search rules in
    c.in_ok-add_vertices.ensures q
    ∙ ap (λ o. option_or o (first_named q (length c.args.carry.now) vertices)) (c.in_ok-add_ports.ensures q)
    ∙ ap (λ o. option_or (option_or o (first_named q 0 ports)) (first_named q (length c.args.carry.now) vertices)) empty
    ∙ ap (λ n. option_or (first_named q 0 ports) (first_named q n vertices)) place
    ∙ sym (first_join q 0 ports vertices)
