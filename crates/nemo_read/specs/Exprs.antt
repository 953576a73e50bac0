-- The expressions that JSON values stand for.
use Rattle.std.specs.Prelude.{ℕ, zero, suc, if◌then◌else◌, List, Option, Some, None, option_map, option_and_then, codes}
use Rattle.serde_json.specs.Data.{Data, Items, no_items, item}
use Rattle.nemo_value.specs.Texts.{same_text}
use Rattle.nemo_value.specs.declared.expr.Expr.{Expr}
use Rattle.nemo_value.specs.declared.expr.Expr.TheVariants.{Get, Const, Pair, If, Len}
use Rattle.nemo_value.specs.declared.expr.Oper.{Oper}
use Rattle.nemo_value.specs.declared.expr.Oper.TheVariants.{Add, Sub, Mul, Div, Rem, Less, Same, Cat}
use Rattle.nemo_read.specs.Calls.{call_of}
use Rattle.nemo_read.specs.Parts.{field_of, place_of}

-- the operator of a word
abbrev pub oper_of : List ℕ → Option Oper
oper_of word =
    if same_text word (codes "+") then Some Add
    else (if same_text word (codes "-") then Some Sub
    else (if same_text word (codes "*") then Some Mul
    else (if same_text word (codes "/") then Some Div
    else (if same_text word (codes "%") then Some Rem
    else (if same_text word (codes "<") then Some Less
    else (if same_text word (codes "=") then Some Same
    else (if same_text word (codes "cat") then Some Cat
    else None)))))))

-- both operands, where both are there
abbrev pub pair_with : Oper → Option Expr → Option Expr → Option Expr
pair_with o (Some a) (Some b) = Some (Pair o a b)
pair_with o (Some a) None = None
pair_with o None b = None

abbrev pub choice_with : Option Expr → Option Expr → Option Expr → Option Expr
choice_with (Some c) (Some a) (Some b) = Some (If c a b)
choice_with (Some c) (Some a) None = None
choice_with (Some c) None b = None
choice_with None a b = None

---- a construct before its operands are read

pub data Shape : Type 0 where
  -- one that has none
  Whole : Expr → Shape
  Length : Data → Shape
  Both : Oper → Data → Data → Shape
  Choice : Data → Data → Data → Shape

-- `["f",k]`, `["c",x]` or `["len",a]`
abbrev pub single_of : Data → List ℕ → Option Shape
single_of a word =
    if same_text word (codes "f") then option_map (λ k. Whole (Get k)) (place_of a)
    else (if same_text word (codes "c") then option_map (λ x. Whole (Const x)) (field_of a)
    else (if same_text word (codes "len") then Some (Length a)
    else None))

-- an operator and its operands
abbrev pub both_of : Data → Data → List ℕ → Option Shape
both_of a b word = option_map (λ o. Both o a b) (oper_of word)

-- `["if",c,a,b]`
abbrev pub choice_of : Data → Data → Data → List ℕ → Option Shape
choice_of c a b word = if same_text word (codes "if") then Some (Choice c a b) else None

-- a word and what it wants
abbrev pub shape_from : Items → List ℕ → Option Shape
shape_from (item a no_items) word = single_of a word
shape_from (item a (item b no_items)) word = both_of a b word
shape_from (item c (item a (item b no_items))) word = choice_of c a b word
shape_from _ word = None

abbrev pub shape_of : Data → Option Shape
shape_of d = option_and_then (λ c. shape_from c.args c.word) (call_of d)

---- expressions

-- a construct with its operands
abbrev pub expr_by : (Data → Option Expr) → Shape → Option Expr
expr_by reads (Whole e) = Some e
expr_by reads (Length a) = option_map Len (reads a)
expr_by reads (Both o a b) = pair_with o (reads a) (reads b)
expr_by reads (Choice c a b) = choice_with (reads c) (reads a) (reads b)

-- an expression that is at most n deep
unfoldable pub expr_within : ℕ → Data → Option Expr
expr_within zero d = None
expr_within (suc n) d = option_and_then (expr_by (expr_within n)) (shape_of d)

abbrev pub expr_of : Data → Option Expr
expr_of d = expr_within 32 d
