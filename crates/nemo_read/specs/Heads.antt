-- The heads of vertices as the readers give them.
use Rattle.serde_json.specs.View.{items_view}
use Rattle.nemo_read.specs.Vertices as spec
use Rattle.nemo_read.specs.declared.head.Form.{Form}
use Rattle.nemo_read.specs.declared.head.Form.TheVariants.{Does, Loops}
use Rattle.nemo_read.specs.declared.head.Head.{Head}
use Rattle.nemo_read.specs.declared.head.LoopForm.{LoopForm}

-- the members of a loop, with the items of its body as values
abbrev pub loop_view : LoopForm → spec.LoopForm
loop_view l = record { turns = l.turns; carry = l.carry; body = items_view l.body.items; next = l.next }

abbrev pub form_view : Form → spec.Form
form_view (Does t) = spec.Does t
form_view (Loops l) = spec.Loops (loop_view l)

abbrev pub head_view : Head → spec.Head
head_view h = record { name = h.name; inputs = h.inputs; form = form_view h.form }
