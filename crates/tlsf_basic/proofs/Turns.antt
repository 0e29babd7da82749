-- Turns, one at a time.
use Rattle.std.proofs.Common.{◌≡◌, ℕ, zero, suc, ◌+◌, ◌-◌, ◌<◌, ◌≤◌, Bool, true, false, List, [], ◌∷◌, ◌++◌, length, Result, Ok, Err, drop, sym, refl, ap, ◌∙◌, subst, arith}
use Rattle.ltl_form.specs.declared.formulas.Ltl.{Ltl}
use Rattle.tlsf_basic.specs.declared.faults.TextFault.TheVariants.{TooDeep}
use Rattle.tlsf_basic.specs.declared.symbols.Symbol.{Symbol}
use Rattle.tlsf_basic.specs.declared.symbols.Lexeme.{Lexeme}
use Rattle.ltl_form.specs.declared.formulas.Ltl.TheVariants as ltl
use Rattle.tlsf_basic.specs.declared.stops.Stop.{Stop}
use Rattle.tlsf_basic.specs.declared.stops.Stop.TheVariants as stops
use Rattle.tlsf_basic.specs.Marks.{is_and, is_or}
use Rattle.tlsf_basic.specs.Reads.{Halt, Read, Past, ◌>>=◌, front, turns, passes, Fails, Gives}
use Rattle.tlsf_basic.specs.Formulas.{Deeper, nested, read_unary, read_formula, read_arrow, one_more, read_conjuncts, read_disjuncts, read_all}

module _ {S : Type 0} (goes : Symbol → Bool) (turn : S → List Lexeme → Read S) where
  -- the front says no more
  pub turns_end : (n : ℕ) (state : S) (w : List Lexeme) → goes (front w) ≡ false → turns goes turn n state w ≡ Ok (state, w)
  unfolding turns
  turns_end zero state w stop = refl
  turns_end (suc n) state w stop = rw stop refl

  -- no turn is left
  pub turns_out : (n : ℕ) (state : S) (w : List Lexeme) → n ≡ 0 → turns goes turn n state w ≡ Ok (state, w)
  unfolding turns
  turns_out zero state w none = refl
  turns_out (suc n) state w none = absurd (omega (arith, none))

  pub one_turn : (n : ℕ) (state : S) (w : List Lexeme) → goes (front w) ≡ true → turns goes turn (suc n) state w ≡ (turn state w >>= λ r. turns goes turn n r.0 r.1)
  unfolding turns
  one_turn n state w go = rw go refl

  -- one turn, and the others
  pub turns_more : (n m : ℕ) (state next : S) (w v : List Lexeme) → goes (front w) ≡ true → n ≡ suc m → turn state w ≡ Ok (next, v) → turns goes turn n state w ≡ turns goes turn m next v
  turns_more n m state next w v go is took =
      ap (λ k. turns goes turn k state w) is ∙ one_turn m state w go ∙ ap (λ r. r >>= λ r. turns goes turn m r.0 r.1) took

  pub turns_err : (n : ℕ) (state : S) (w : List Lexeme) (e : Halt) → goes (front w) ≡ true → 0 < n → turn state w ≡ Err e → turns goes turn n state w ≡ Err e
  turns_err zero state w e go some failed = absurd (omega (arith, some))
  turns_err (suc n) state w e go some failed = one_turn n state w go ∙ ap (λ r. r >>= λ r. turns goes turn n r.0 r.1) failed

  -- a loop that has taken some of its turns, and what all turns give
  module _ {total : Read S} (stop counter : ℕ) {state : S} {w : List Lexeme} (is : turns goes turn (stop - counter) state w ≡ total) where
    pub turned : {next : S} {v : List Lexeme} → counter < stop → goes (front w) ≡ true → turn state w ≡ Ok (next, v) → turns goes turn (stop - (counter + 1)) next v ≡ total
    turned {next} {v} below go took =
        let e : stop - counter ≡ suc (stop - (counter + 1)) = omega arith in
        sym (turns_more (stop - counter) (stop - (counter + 1)) state next w v go e took) ∙ is

    pub turn_failed : (e : Halt) → counter < stop → goes (front w) ≡ true → turn state w ≡ Err e → total ≡ Err e
    turn_failed e below go failed = sym is ∙ turns_err (stop - counter) state w e go (omega arith) failed

    pub turns_ended : goes (front w) ≡ false → total ≡ Ok (state, w)
    turns_ended done = sym is ∙ turns_end (stop - counter) state w done

    pub turns_ran_out : stop ≤ counter → total ≡ Ok (state, w)
    turns_ran_out past = sym is ∙ turns_out (stop - counter) state w (omega arith)

module _ (goes : Symbol → Bool) (turn : List Lexeme → Past) where
  pub passes_end : (n : ℕ) (w : List Lexeme) → goes (front w) ≡ false → passes goes turn n w ≡ Ok w
  unfolding passes
  passes_end zero w stop = refl
  passes_end (suc n) w stop = rw stop refl

  pub passes_out : (n : ℕ) (w : List Lexeme) → n ≡ 0 → passes goes turn n w ≡ Ok w
  unfolding passes
  passes_out zero w none = refl
  passes_out (suc n) w none = absurd (omega (arith, none))

  pub one_pass : (n : ℕ) (w : List Lexeme) → goes (front w) ≡ true → passes goes turn (suc n) w ≡ (turn w >>= passes goes turn n)
  unfolding passes
  one_pass n w go = rw go refl

  -- a loop that has taken some of its turns, and what all turns give
  module _ {total : Past} (stop counter : ℕ) {w : List Lexeme} (is : passes goes turn (stop - counter) w ≡ total) where
    pub passed : {v : List Lexeme} → counter < stop → goes (front w) ≡ true → turn w ≡ Ok v → passes goes turn (stop - (counter + 1)) v ≡ total
    passed {v} below go took =
        let e : stop - counter ≡ suc (stop - (counter + 1)) = omega arith in
        sym (ap (λ k. passes goes turn k w) e ∙ one_pass (stop - (counter + 1)) w go ∙ ap (λ r. r >>= passes goes turn (stop - (counter + 1))) took) ∙ is

    pub pass_failed : (e : Halt) → counter < stop → goes (front w) ≡ true → turn w ≡ Err e → total ≡ Err e
    pass_failed e below go failed =
        let k : stop - counter ≡ suc (stop - (counter + 1)) = omega arith in
        sym is ∙ ap (λ k. passes goes turn k w) k ∙ one_pass (stop - (counter + 1)) w go ∙ ap (λ r. r >>= passes goes turn (stop - (counter + 1))) failed

    pub passes_ended : goes (front w) ≡ false → total ≡ Ok w
    passes_ended done = sym is ∙ passes_end (stop - counter) w done

    pub passes_ran_out : stop ≤ counter → total ≡ Ok w
    passes_ran_out past = sym is ∙ passes_out (stop - counter) w (omega arith)

-- one level deeper, where a level is left
pub nested_unary : (n : ℕ) (w : List Lexeme) → 0 < n → (nested n).unary w ≡ read_unary (nested (n - 1)) (drop 1 w)
unfolding nested
nested_unary zero w some = absurd (omega (arith, some))
nested_unary (suc n) w some =
    let e : suc n - 1 ≡ n = omega arith in rw e refl

pub nested_formula : (n : ℕ) (w : List Lexeme) → 0 < n → (nested n).formula w ≡ read_formula (nested (n - 1)) (drop 1 w)
unfolding nested
nested_formula zero w some = absurd (omega (arith, some))
nested_formula (suc n) w some =
    let e : suc n - 1 ≡ n = omega arith in rw e refl

pub nested_arrow : (n : ℕ) (w : List Lexeme) → 0 < n → (nested n).arrow w ≡ read_arrow (nested (n - 1)) (drop 1 w)
unfolding nested
nested_arrow zero w some = absurd (omega (arith, some))
nested_arrow (suc n) w some =
    let e : suc n - 1 ≡ n = omega arith in rw e refl

pub nested_unary-none : (n : ℕ) (w : List Lexeme) → n ≡ 0 → (nested n).unary w ≡ Err (TooDeep, w)
unfolding nested
nested_unary-none zero w none = refl
nested_unary-none (suc n) w none = absurd (omega (arith, none))

pub nested_formula-none : (n : ℕ) (w : List Lexeme) → n ≡ 0 → (nested n).formula w ≡ Err (TooDeep, w)
unfolding nested
nested_formula-none zero w none = refl
nested_formula-none (suc n) w none = absurd (omega (arith, none))

pub nested_arrow-none : (n : ℕ) (w : List Lexeme) → n ≡ 0 → (nested n).arrow w ≡ Err (TooDeep, w)
unfolding nested
nested_arrow-none zero w none = refl
nested_arrow-none (suc n) w none = absurd (omega (arith, none))

-- one more operand
pub one_more_ok : (read : List Lexeme → Read Ltl) (fs : List Ltl) (f : Ltl) (w u v : List Lexeme) → u ≡ drop 1 w → read u ≡ Ok (f, v) → one_more read fs w ≡ Ok (fs ++ f ∷ [], v)
one_more_ok read fs f w u v is took = ap (λ r. r >>= λ r. Ok (fs ++ r.0 ∷ [], r.1)) (ap read (sym is) ∙ took)

pub one_more_err : (read : List Lexeme → Read Ltl) (fs : List Ltl) (w u : List Lexeme) (e : Halt) → u ≡ drop 1 w → read u ≡ Err e → one_more read fs w ≡ Err e
one_more_err read fs w u e is failed = ap (λ r. r >>= λ r. Ok (fs ++ r.0 ∷ [], r.1)) (ap read (sym is) ∙ failed)

-- a chain of `&&` and one of `||`, from what their turns give
pub conjuncts_ok : (deeper : Deeper) (first : Ltl) (w : List Lexeme) (fs : List Ltl) (v : List Lexeme) → turns is_and (one_more (read_unary deeper)) (length w) (first ∷ []) w ≡ Ok (fs, v) → read_conjuncts deeper first w ≡ Ok (ltl.All fs, v)
unfolding read_conjuncts
conjuncts_ok deeper first w fs v is = ap (λ r. r >>= λ r. Ok (ltl.All r.0, r.1)) is

pub conjuncts_err : (deeper : Deeper) (first : Ltl) (w : List Lexeme) (e : Halt) → turns is_and (one_more (read_unary deeper)) (length w) (first ∷ []) w ≡ Err e → read_conjuncts deeper first w ≡ Err e
unfolding read_conjuncts
conjuncts_err deeper first w e is = ap (λ r. r >>= λ r. Ok (ltl.All r.0, r.1)) is

pub disjuncts_ok : (deeper : Deeper) (first : Ltl) (w : List Lexeme) (fs : List Ltl) (v : List Lexeme) → turns is_or (one_more (read_all deeper)) (length w) (first ∷ []) w ≡ Ok (fs, v) → read_disjuncts deeper first w ≡ Ok (ltl.Any fs, v)
unfolding read_disjuncts
disjuncts_ok deeper first w fs v is = ap (λ r. r >>= λ r. Ok (ltl.Any r.0, r.1)) is

pub disjuncts_err : (deeper : Deeper) (first : Ltl) (w : List Lexeme) (e : Halt) → turns is_or (one_more (read_all deeper)) (length w) (first ∷ []) w ≡ Err e → read_disjuncts deeper first w ≡ Err e
unfolding read_disjuncts
disjuncts_err deeper first w e is = ap (λ r. r >>= λ r. Ok (ltl.Any r.0, r.1)) is

-- what an error tells of one reading it tells of another that fails with it
pub Fails-through : {A B : Type 0} (e : Stop) (read : Result A Halt) (other : Result B Halt) → ((h : Halt) → read ≡ Err h → other ≡ Err h) → Fails e read → Fails e other
Fails-through stops.Memory read other through tells = tt
Fails-through (stops.Fault what rest) read other through tells = through (what, rest.now) tells

pub Gives-err : {X Y : Type 0} (view : X → Y) (r : Result X Stop) (e y : Stop) (read : Result Y Halt) → r ≡ Err y → y ≡ e → Fails e read → Gives view r read
Gives-err view r e y read is same tells =
    subst (λ x. Gives view x read) (sym (is ∙ ap Err same)) tells
