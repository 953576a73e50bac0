-- What `check` and `solo` serve for now: chains, whose DAG may be proposed as Ops of one task each; and `check` every
-- bundle that proposes a DAG.
use Rattle.std.specs.Prelude.{◌≡◌, ◌≤◌, ◌&&◌, not, nat_le, Bool, true, if◌then◌else◌, [], Option, Some, None, IfSome, Result, Ok, Err}
use Rattle.std.specs.List.{list_all}
use Rattle.serde_json.specs.Data.{Data}
use Rattle.nemo_base.specs.declared.annotation.Policy.TheVariants.{Plain}
use Rattle.nemo_bundle.specs.Answers.{Refusal}
use Rattle.nemo_bundle.specs.Given.{given_in}
use Rattle.nemo_bundle.specs.declared.bundle.Bundle.{Bundle}
use Rattle.nemo_bundle.specs.declared.given.Given.{Given}
use Rattle.nemo_flat.specs.Flat.{flat_of}
use Rattle.nemo_ir.specs.Line.{IsLine}
use Rattle.nemo_ir.specs.Uniform.{is_uniform, is_uniform_edge, is_uniform_op}
use Rattle.nemo_ir.specs.declared.dag.IrDag.{IrDag}
use Rattle.nemo_job.specs.Chain.{is_built, is_chain}

-- the refusal of what isn't served
abbrev pub unserved : Refusal
unserved = record { code = 90; place = 0 }

-- codes 1 and 2 stay, and what is refused by another isn't served
abbrev pub narrowed : Refusal → Refusal
narrowed r = if nat_le r.code 2 then r else unserved

-- no member but `dag` and `parallelism` says how the job is run
abbrev pub is_bare : Given → Bool
is_bare g = not g.cluster && not g.policy && not g.settings && not g.script && not g.schedule

-- Ops of one task on transient machines, each fed task by task by blocks that are fetched and kept
abbrev pub is_single : IrDag → Bool
is_single dag = list_all (is_uniform_op 1) dag.vertices && list_all is_uniform_edge dag.edges

abbrev pub is_single_if_any : Option IrDag → Bool
is_single_if_any (Some dag) = is_single dag
is_single_if_any None = true

abbrev pub is_served : Given → Bundle → Bool
is_served g b = is_bare g && is_chain b.job && is_single_if_any b.dag

-- the bundle, where it is served
abbrev pub served : Data → Result Bundle Refusal → Result Bundle Refusal
served d (Ok b) = if is_served (given_in d) b then Ok b else Err unserved
served d (Err r) = Err (narrowed r)

-- where a DAG is proposed every bundle, and else one that is served
abbrev pub checked : Data → Result Bundle Refusal → Result Bundle Refusal
checked d r = if (given_in d).dag then r else served d r

-- what a bundle is of which a DAG can be had: it proposes one, or the plain policy makes one of its job
pub record HasDag (b : Bundle) : Type 0 where
  pub some : 1 ≤ b.parallelism
  pub few : b.parallelism ≤ 64
  pub line : b.dag ≡ None → IsLine b.flat
  pub plain : b.dag ≡ None → b.policy ≡ Plain

-- what a bundle is that can be run
pub record IsRunnable (b : Bundle) : Type 0 where
  pub dag : HasDag b
  pub chain : is_built b.job ≡ true
  pub flat : b.flat ≡ flat_of b.job
  pub uniform : IfSome b.dag (λ dag. is_uniform dag ≡ true)
  pub script : b.script ≡ []
