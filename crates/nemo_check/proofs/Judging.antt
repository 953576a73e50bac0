-- The clauses one by one, up to the first that fails.
use Rattle.std.proofs.Common.{◌≡◌, refl, sym, ◌∙◌, subst, ℕ, ◌+◌, ◌<◌, List, ◌∷◌, Option, Some, None, drop, inl, inr, length, slice_index_or}
use Rattle.nemo_ir.specs.Flat.{FlatForm}
use Rattle.nemo_ir.specs.Valid.{FailsAt, Holds, Valid, clauses, number_of}
use Rattle.nemo_ir.specs.declared.clause.Clause.{Clause}
use Rattle.nemo_ir.specs.declared.dag.IrDag.{IrDag}
use Rattle.nemo_check.specs.Finds.{AllHold, Finds, Judges}

-- a clause that holds leaves the answer to those after it
pub passed_on : (flat : FlatForm) (dag : IrDag) (c : Clause) (cs : List Clause) (found : Option ℕ) → Finds flat dag c found → found ≡ None
    → (r : Option (Clause × ℕ)) → Judges flat dag cs r → Judges flat dag (c ∷ cs) r
passed_on flat dag c cs found f none (Some r) h = inr (subst (Finds flat dag c) none f, h)
passed_on flat dag c cs found f none None h = (subst (Finds flat dag c) none f, h)

-- one that fails is the first
pub stopped : (flat : FlatForm) (dag : IrDag) (c : Clause) (cs : List Clause) (found : Option ℕ) (i : ℕ) → Finds flat dag c found → found ≡ Some i → Judges flat dag (c ∷ cs) (Some (c, i))
stopped flat dag c cs found i f some = inl (refl, subst (Finds flat dag c) some f)

pub all_valid : (flat : FlatForm) (dag : IrDag) → AllHold flat dag clauses → Valid flat dag
all_valid flat dag h = record {
  v1 = h.0;
  v2 = h.1.0;
  v3 = h.1.1.0;
  v4 = h.1.1.1.0;
  v5 = h.1.1.1.1.0;
  v6 = h.1.1.1.1.1.0;
  v7 = h.1.1.1.1.1.1.0;
  v8 = h.1.1.1.1.1.1.1.0;
  v9 = h.1.1.1.1.1.1.1.1.0;
}
