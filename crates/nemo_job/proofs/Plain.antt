-- Maps of first fields and constants have no fault, and their rows have fields.
use Rattle.std.proofs.Common.{rules, ◌≡◌, ◌∙◌, ap, refl, ℕ, List, [], ◌∷◌, ◌++◌, true, ◌==◌, nat_le, length, Result, Ok, Err, is_ok}
use Rattle.std.proofs.lemmas.Bool.{eqb-true}
use Rattle.std.specs.List.{list_all, filter_map}
use Rattle.std.specs.Cmp.{first_so, second_so}
use Rattle.nemo_value.specs.Val.{val}
use Rattle.nemo_value.specs.declared.expr.Expr.{Expr, the_lemmas}
use Rattle.nemo_value.specs.declared.expr.Expr.TheVariants.{Get, Const}
use Rattle.nemo_value.specs.declared.expr.Kind.{Kind}
use Rattle.nemo_value.specs.declared.field.Field.{Field}
use Rattle.nemo_transform.specs.Gives.{Row, Answer, alone, before, fault_in, is_filled, map_answers, row_of, rows_in, rows_or}
use Rattle.nemo_job.specs.Chain.{is_plain}

zero_is : (k : ℕ) → (k == 0) ≡ true → k ≡ 0
zero_is k h = eqb-true k 0 h

value_plain : (e : Expr) (r : Row) → is_plain e ≡ true → is_filled r ≡ true → is_ok (val e r) ≡ true
value_plain (Get k) [] h f = cc
value_plain (Get k) (x ∷ xs) h f = let first : val (Get 0) (x ∷ xs) ≡ Ok x = search (rules, the_lemmas) in ap (λ n. is_ok (val (Get n) (x ∷ xs))) (zero_is k h) ∙ ap is_ok first
value_plain (Const x) r h f = let same : val (Const x) r ≡ Ok x = search (rules, the_lemmas) in ap is_ok same
value_plain _ r h f = cc

-- the answers of a map for a row
row_plain : (out : List Expr) (r : Row) → list_all is_plain out ≡ true → is_filled r ≡ true → is_ok (row_of out r) ≡ true
row_plain [] r h f = refl
row_plain (e ∷ es) r h f = both (val e r) (row_of es r) (value_plain e r (first_so (is_plain e) (list_all is_plain es) h) f) (row_plain es r (second_so (is_plain e) (list_all is_plain es) h) f)
  where
    both : (x : Result Field Kind) (xs : Result Row Kind) → is_ok x ≡ true → is_ok xs ≡ true → is_ok (before x xs) ≡ true
    both (Ok x) (Ok xs) p q = refl
    both (Err k) xs p q = cc
    both (Ok x) (Err k) p q = cc

-- no answer is a fault
pub no_faults : (out : List Expr) (rows : List Row) → list_all is_plain out ≡ true → list_all is_filled rows ≡ true → filter_map fault_in (map_answers out rows) ≡ []
no_faults out [] h f = refl
no_faults out (r ∷ rows) h f =
    skip (row_of out r) (map_answers out rows) (row_plain out r h (first_so (is_filled r) (list_all is_filled rows) f))
    ∙ no_faults out rows h (second_so (is_filled r) (list_all is_filled rows) f)
  where
    skip : (x : Result Row Kind) (more : List Answer) → is_ok x ≡ true → filter_map fault_in (rows_or r (alone x) ++ more) ≡ filter_map fault_in more
    skip (Ok fs) more p = refl
    skip (Err k) more p = cc

-- each row that a map gives has a field
pub rows_filled : (out : List Expr) (rows : List Row) → nat_le 1 (length out) ≡ true → list_all is_filled (rows_in (map_answers out rows)) ≡ true
rows_filled [] rows h = cc
rows_filled (e ∷ es) [] h = refl
rows_filled (e ∷ es) (r ∷ rows) h = pass (val e r) (row_of es r) (map_answers (e ∷ es) rows) ∙ rows_filled (e ∷ es) rows h
  where
    pass : (x : Result Field Kind) (xs : Result Row Kind) (more : List Answer) → list_all is_filled (rows_in (rows_or r (alone (before x xs)) ++ more)) ≡ list_all is_filled (rows_in more)
    pass (Ok x) (Ok xs) more = refl
    pass (Ok x) (Err k) more = refl
    pass (Err k) xs more = refl
