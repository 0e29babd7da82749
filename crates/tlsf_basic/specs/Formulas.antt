-- Reading the formulas of entries.
use Rattle.std.specs.Prelude.{ℕ, zero, suc, List, [], ◌∷◌, ◌++◌, Ok, Err, drop, length}
use Rattle.ltl_form.specs.declared.formulas.Ltl.{Ltl}
use Rattle.ltl_form.specs.declared.formulas.Ltl.TheVariants as ltl
use Rattle.tlsf_basic.specs.declared.faults.TextFault.TheVariants.{TooDeep}
use Rattle.tlsf_basic.specs.declared.symbols.Unary.{Unary}
use Rattle.tlsf_basic.specs.declared.symbols.Lone.{Lone}
use Rattle.tlsf_basic.specs.declared.symbols.Symbol.{Symbol}
use Rattle.tlsf_basic.specs.declared.symbols.Symbol.TheVariants as s
use Rattle.tlsf_basic.specs.declared.symbols.Lexeme.{Lexeme}
use Rattle.tlsf_basic.specs.Reads.{Read, ◌>>=◌, front, unexpected, turns}
use Rattle.tlsf_basic.specs.Marks.{is_and, is_or, is_close, closing}
use Rattle.tlsf_basic.specs.Values.{with_unary, with_lone}

-- what is read one level deeper, each at the token that nests it
pub record Deeper : Type 0 where
  pub unary : List Lexeme → Read Ltl
  pub formula : List Lexeme → Read Ltl
  pub arrow : List Lexeme → Read Ltl

abbrev pub atom_by : Symbol → List Lexeme → Read Ltl
atom_by s.True w = Ok (ltl.True, drop 1 w)
atom_by s.False w = Ok (ltl.False, drop 1 w)
atom_by (s.Signal n) w = Ok (ltl.Signal n, drop 1 w)
atom_by s.Unknown w = Ok (ltl.Signal 4294967295, drop 1 w)
atom_by _ w = unexpected w

unfoldable pub read_atom : List Lexeme → Read Ltl
read_atom w = atom_by (front w) w

unfoldable pub read_prefixed : Deeper → Unary → List Lexeme → Read Ltl
read_prefixed deeper op w = deeper.unary w >>= λ r. Ok (with_unary op r.0, r.1)

unfoldable pub read_parens : Deeper → List Lexeme → Read Ltl
read_parens deeper w = deeper.formula w >>= λ r. closing is_close r.1 >>= λ v. Ok (r.0, v)

abbrev pub unary_by : Symbol → Deeper → List Lexeme → Read Ltl
unary_by (s.Unary op) deeper w = read_prefixed deeper op w
unary_by s.Open deeper w = read_parens deeper w
unary_by _ deeper w = read_atom w

unfoldable pub read_unary : Deeper → List Lexeme → Read Ltl
read_unary deeper w = unary_by (front w) deeper w

-- one more operand of a chain
abbrev pub one_more : (List Lexeme → Read Ltl) → List Ltl → List Lexeme → Read (List Ltl)
one_more read fs w = read (drop 1 w) >>= λ r. Ok (fs ++ r.0 ∷ [], r.1)

unfoldable pub read_conjuncts : Deeper → Ltl → List Lexeme → Read Ltl
read_conjuncts deeper first w =
    turns is_and (one_more (read_unary deeper)) (length w) (first ∷ []) w >>= λ r. Ok (ltl.All r.0, r.1)

abbrev pub all_by : Symbol → Deeper → Ltl → List Lexeme → Read Ltl
all_by s.And deeper first w = read_conjuncts deeper first w
all_by _ deeper first w = Ok (first, w)

-- what goes on behind a first operand, as far as `&&` goes
unfoldable pub read_all_from : Deeper → Ltl → List Lexeme → Read Ltl
read_all_from deeper first w = all_by (front w) deeper first w

unfoldable pub read_all : Deeper → List Lexeme → Read Ltl
read_all deeper w = read_unary deeper w >>= λ r. read_all_from deeper r.0 r.1

unfoldable pub read_disjuncts : Deeper → Ltl → List Lexeme → Read Ltl
read_disjuncts deeper first w =
    turns is_or (one_more (read_all deeper)) (length w) (first ∷ []) w >>= λ r. Ok (ltl.Any r.0, r.1)

abbrev pub any_by : Symbol → Deeper → Ltl → List Lexeme → Read Ltl
any_by s.Or deeper first w = read_disjuncts deeper first w
any_by _ deeper first w = Ok (first, w)

-- the same, as far as `||` goes
unfoldable pub read_any_from : Deeper → Ltl → List Lexeme → Read Ltl
read_any_from deeper first w = read_all_from deeper first w >>= λ r. any_by (front r.1) deeper r.0 r.1

unfoldable pub read_implied : Deeper → Ltl → List Lexeme → Read Ltl
read_implied deeper left w = deeper.arrow w >>= λ r. Ok (ltl.Implies left r.0, r.1)

abbrev pub arrow_by : Symbol → Deeper → Ltl → List Lexeme → Read Ltl
arrow_by s.Arrow deeper left w = read_implied deeper left w
arrow_by _ deeper left w = Ok (left, w)

-- the same, as far as `->` goes
unfoldable pub read_arrow_from : Deeper → Ltl → List Lexeme → Read Ltl
read_arrow_from deeper first w = read_any_from deeper first w >>= λ r. arrow_by (front r.1) deeper r.0 r.1

unfoldable pub read_arrow : Deeper → List Lexeme → Read Ltl
read_arrow deeper w = read_unary deeper w >>= λ r. read_arrow_from deeper r.0 r.1

unfoldable pub read_second : Deeper → Lone → Ltl → List Lexeme → Read Ltl
read_second deeper op first w = read_unary deeper (drop 1 w) >>= λ r. Ok (with_lone op first r.0, r.1)

abbrev pub formula_by : Symbol → Deeper → Ltl → List Lexeme → Read Ltl
formula_by (s.Lone op) deeper first w = read_second deeper op first w
formula_by _ deeper first w = read_arrow_from deeper first w

unfoldable pub read_formula : Deeper → List Lexeme → Read Ltl
read_formula deeper w = read_unary deeper w >>= λ r. formula_by (front r.1) deeper r.0 r.1

abbrev pub too_deep : List Lexeme → Read Ltl
too_deep w = Err (TooDeep, w)

-- what is read deeper where so many levels are left
unfoldable pub nested : ℕ → Deeper
nested zero = record { unary = too_deep; formula = too_deep; arrow = too_deep }
nested (suc n) = record {
  unary = λ w. read_unary (nested n) (drop 1 w);
  formula = λ w. read_formula (nested n) (drop 1 w);
  arrow = λ w. read_arrow (nested n) (drop 1 w);
}
