-- The bundle of a call, its DAG and its plan.
use Rattle.std.specs.Prelude.{◌≡◌, ℕ, List, Some, unwrap_or, IsUtf8, Result, Ok, Err}
use Rattle.serde_json.specs.Data.{Data}
use Rattle.serde_json.specs.Read.{read}
use Rattle.nemo_base.specs.declared.annotation.Policy.{Policy}
use Rattle.nemo_base.specs.declared.annotation.Policy.TheVariants.{Plain, Pado, Skew, PadoSkew}
use Rattle.nemo_bundle.specs.Answers.{Refusal}
use Rattle.nemo_bundle.specs.Read.{bundle_of}
use Rattle.nemo_bundle.specs.declared.bundle.Bundle.{Bundle}
use Rattle.nemo_flat.specs.FirstDag.{first_dag}
use Rattle.nemo_ir.specs.Flat.{FlatForm}
use Rattle.nemo_ir.specs.declared.dag.IrDag.{IrDag}
use Rattle.nemo_plan.specs.Form.{PlanForm}
use Rattle.nemo_policy.specs.Passes.{plain_dag}
use Rattle.nemo_top.specs.Served.{checked, served}
use Rattle.nemo_top.specs.declared.word.Command.{Command}
use Rattle.nemo_top.specs.declared.word.Command.TheVariants.{Eval, Check, Solo}

-- the bytes are this JSON value
abbrev pub IsJson : List ℕ → Data → Type 0
IsJson bytes d = IsUtf8 bytes × (read bytes ≡ Some d)

-- they are none
abbrev pub IsNoJson : List ℕ → Type 0
IsNoJson bytes = (d : Data) → ¬ IsJson bytes d

-- the bundle that a command reads
abbrev pub bundle_for : Command → Data → Result Bundle Refusal
bundle_for Eval d = bundle_of d
bundle_for Check d = checked d (bundle_of d)
bundle_for Solo d = served d (bundle_of d)

-- the bytes are this bundle of a command
abbrev pub IsBundle : Command → List ℕ → Bundle → Type 0
IsBundle command bytes b = (d : Data) × IsJson bytes d × (bundle_for command d ≡ Ok b)

-- they are a value that is refused with this code at this place
abbrev pub IsRefused : Command → List ℕ → ℕ → ℕ → Type 0
IsRefused command bytes code place = (d : Data) × IsJson bytes d × (bundle_for command d ≡ Err (record { code = code; place = place }))

-- What a policy makes of a flat job. The passes of all but `plain` are still to come, and none of their DAGs is served.
abbrev pub policy_dag : FlatForm → Policy → ℕ → IrDag
policy_dag flat Plain p = plain_dag flat p
policy_dag flat Pado p = first_dag flat
policy_dag flat Skew p = first_dag flat
policy_dag flat PadoSkew p = first_dag flat

-- the DAG of a bundle: the one that it proposes, and else what its policy makes of its job
abbrev pub dag_of : Bundle → IrDag
dag_of b = unwrap_or b.dag (policy_dag b.flat b.policy b.parallelism)

-- its plan
abbrev pub plan_of : Bundle → PlanForm
plan_of b = record { flat = b.flat; dag = dag_of b }
