-- A player of a specification has one automaton, or passes one limit.
use Rattle.std.proofs.Common.{◌≡◌, ℕ, suc, ◌<◌, ◌≤◌, Bool, true, false, nat_lt, List, [], ◌∷◌, length, refl, sym, ◌∙◌, ap, subst, arith}
use borrow.Author.Tests.{ltb-true, ltb-false}
use Rattle.std.specs.List.{AllPairs, Contains}
use Rattle.std.proofs.lemmas.List.Elements.{All-contains, All-nil, Contains-get_or}
use Rattle.std.proofs.lemmas.Map.Made.{Contains-tail}
use Rattle.ltl_form.specs.declared.normals.Node.{Node}
use Rattle.ltl_form.proofs.NodeLists.{node_trees-length}
use Rattle.nba_trim.specs.Trimmed.{AreKept, IsTrimmed, restricted}
use Rattle.tableau_nba.specs.Walks.{Outcome, Spot, all_spots, automaton_in, walk_data}
use Rattle.tableau_nba.specs.Walks.Outcome.{found, too_wide, too_many}
use Rattle.tlsf_basic.specs.declared.specifications.Spec.{Spec}
use Rattle.tlsf_basic.specs.Specification.{signal_count}
use Rattle.word_core.specs.declared.names.Player.{Player}
use Rattle.word_core.specs.Automaton.{AutomatonData}
use Rattle.dual_game.specs.declared.errors.GameError.{GameError}
use Rattle.dual_game.specs.declared.errors.GameError.TheVariants.{TooManyFormulas, TooWide, TooManyStates, Memory}
use Rattle.dual_game.specs.Automata.{formula_count, AutomatonIsOne, HasTableau, IsAutomatonOf, IsLimitOf, IsNormalOf}
use Rattle.dual_game.proofs.OneForm.{one_form}

-- ---- ascending lists

below_all : (x : ℕ) (xs : List ℕ) → AllPairs (λ p q. p < q) (x ∷ xs) → (q : ℕ) → Contains xs q → x < q
below_all x xs ascending q c = All-contains (λ q. x < q) xs q (λ k d l. ascending 0 (suc k) d (omega arith) (omega (arith, l))) c

tail_of : (x : ℕ) (xs : List ℕ) → AllPairs (λ p q. p < q) (x ∷ xs) → AllPairs (λ p q. p < q) xs
tail_of x xs ascending i j d less l = ascending (suc i) (suc j) d (omega (arith, less)) (omega (arith, l))

in_front : (x : ℕ) (xs : List ℕ) → Contains (x ∷ xs) x
in_front x xs = Contains-get_or (x ∷ xs) 0 x (omega arith)

behind : (x : ℕ) (xs : List ℕ) (q : ℕ) → Contains xs q → Contains (x ∷ xs) q
behind x xs q c = All-contains (λ q. Contains (x ∷ xs) q) xs q (λ k d l. Contains-get_or (x ∷ xs) (suc k) d (omega (arith, l))) c

nowhere : (q : ℕ) → Contains [] q → ⊥
nowhere q c = All-contains (λ _. ⊥) [] q (All-nil (λ _. ⊥)) c

not_below : (x y : ℕ) → x < y → y ≡ x → ⊥
not_below x y less same = omega (arith, less, same)

-- two ascending lists with the same members are one
one_ascending : (u v : List ℕ) → AllPairs (λ p q. p < q) u → AllPairs (λ p q. p < q) v → ((q : ℕ) → Contains u q → Contains v q) → ((q : ℕ) → Contains v q → Contains u q) → u ≡ v
one_ascending [] [] a b f g = refl
one_ascending [] (y ∷ v) a b f g = absurd (nowhere y (g y (in_front y v)))
one_ascending (x ∷ u) [] a b f g = absurd (nowhere x (f x (in_front x u)))
one_ascending (x ∷ u) (y ∷ v) a b f g = rest (heads (nat_lt x y) refl (nat_lt y x) refl) (λ h k. one_ascending u v (tail_of x u a) (tail_of y v b) h k)
  where
    heads : (c : Bool) → nat_lt x y ≡ c → (d : Bool) → nat_lt y x ≡ d → x ≡ y
    heads true e d h =
        let less = ltb-true x y e in
        let more = below_all y v b x (Contains-tail y v x (not_below x y less) (f x (in_front x u))) in
        absurd (omega (arith, less, more))
    heads false e true h =
        let less = ltb-true y x h in
        let more = below_all x u a y (Contains-tail x u y (not_below y x less) (g y (in_front y v))) in
        absurd (omega (arith, less, more))
    heads false e false h = omega (arith, ltb-false x y e, ltb-false y x h)

    there : x ≡ y → (q : ℕ) → Contains u q → Contains v q
    there same q c =
        let less = below_all x u a q c in
        Contains-tail y v q (λ e. omega (arith, less, same, e)) (f q (behind x u q c))

    here : x ≡ y → (q : ℕ) → Contains v q → Contains u q
    here same q c =
        let less = below_all y v b q c in
        Contains-tail x u q (λ e. omega (arith, less, same, e)) (g q (behind y v q c))

    rest : x ≡ y → (((q : ℕ) → Contains u q → Contains v q) → ((q : ℕ) → Contains v q → Contains u q) → u ≡ v) → x ∷ u ≡ y ∷ v
    rest same rec = ap (λ z. z ∷ u) same ∙ ap (λ zs. y ∷ zs) (rec (there same) (here same))

one_kept : (a : AutomatonData) (kept other : List ℕ) → AreKept a kept → AreKept a other → kept ≡ other
one_kept a kept other are also =
    one_ascending kept other are.ascending also.ascending (λ q c. (also.exactly q).1 ((are.exactly q).0 c)) (λ q c. (are.exactly q).1 ((also.exactly q).0 c))

one_trimmed : (a t u : AutomatonData) → IsTrimmed a t → IsTrimmed a u → t ≡ u
one_trimmed a t u is also = is.is ∙ ap (restricted a) (one_kept a is.kept also.kept is.are also.are) ∙ sym also.is

-- ---- tableaus

module _ (s : Spec) (who : Player) where
  one_normal : (nodes others : List Node) (root other : ℕ) → IsNormalOf s who nodes root → IsNormalOf s who others other → nodes ≡ others
  one_normal nodes others root other is also = one_form nodes others root other is.is also.is is.distinct (is.numbers ∙ sym also.numbers)

  one_root : (nodes others : List Node) (root other : ℕ) → IsNormalOf s who nodes root → IsNormalOf s who others other → root ≡ other
  one_root nodes others root other is also =
      let long : length nodes ≡ length others = ap length (one_normal nodes others root other is also) in
      omega (arith, is.is.last, also.is.last, long)

  one_walk : (how end : Outcome) → HasTableau s who how → HasTableau s who end → how ≡ end
  one_walk how end t u =
      sym t.walk ∙ ap (λ nodes. all_spots (walk_data nodes (signal_count s.names)) t.root) (one_normal t.nodes u.nodes t.root u.root t.normal u.normal)
      ∙ ap (λ root. all_spots (walk_data u.nodes (signal_count s.names)) root) (one_root t.nodes u.nodes t.root u.root t.normal u.normal) ∙ u.walk

  tableau_of : (a : AutomatonData) (is : IsAutomatonOf s who a) → HasTableau s who (found is.spots)
  tableau_of a is = record { nodes = is.nodes; root = is.root; normal = is.normal; walk = is.walk }

  few_formulas : (nodes : List Node) (root : ℕ) → IsNormalOf s who nodes root → formula_count s who ≤ 512
  few_formulas nodes root is = omega (arith, is.is.few, node_trees-length nodes, ap length is.numbers)

  abbrev spots_in : List Spot → Outcome → List Spot
  spots_in none (found spots) = spots
  spots_in none too_wide = none
  spots_in none too_many = none

  abbrev is_found : Outcome → ℕ
  is_found (found spots) = 0
  is_found too_wide = 1
  is_found too_many = 2

  one_automaton : (a b : AutomatonData) → IsAutomatonOf s who a → IsAutomatonOf s who b → a ≡ b
  one_automaton a b is also =
      let nodes = one_normal is.nodes also.nodes is.root also.root is.normal also.normal in
      let spots = ap (spots_in []) (one_walk (found is.spots) (found also.spots) (tableau_of a is) (tableau_of b also)) in
      let whole = ap (λ n. automaton_in (walk_data n (signal_count s.names)) is.spots) nodes ∙ ap (λ p. automaton_in (walk_data also.nodes (signal_count s.names)) p) spots in
      one_trimmed (automaton_in (walk_data also.nodes (signal_count s.names)) also.spots) a b (subst (λ w. IsTrimmed w a) whole is.trimmed) also.trimmed

  no_limit : (a : AutomatonData) (e : GameError) → IsAutomatonOf s who a → IsLimitOf s who e → e ≡ Memory
  no_limit a TooManyFormulas is many = let few = few_formulas is.nodes is.root is.normal in absurd (omega (arith, few, many))
  no_limit a TooWide is t = let same = ap is_found (one_walk (found is.spots) too_wide (tableau_of a is) t) in absurd (omega (arith, same))
  no_limit a TooManyStates is t = let same = ap is_found (one_walk (found is.spots) too_many (tableau_of a is) t) in absurd (omega (arith, same))
  no_limit a Memory is h = refl

  one_limit : (d e : GameError) → IsLimitOf s who d → IsLimitOf s who e → (d ≡ Memory → ⊥) → (e ≡ Memory → ⊥) → d ≡ e
  one_limit TooManyFormulas TooManyFormulas h k p q = refl
  one_limit TooManyFormulas TooWide h k p q = let few = few_formulas k.nodes k.root k.normal in absurd (omega (arith, few, h))
  one_limit TooManyFormulas TooManyStates h k p q = let few = few_formulas k.nodes k.root k.normal in absurd (omega (arith, few, h))
  one_limit TooWide TooManyFormulas h k p q = let few = few_formulas h.nodes h.root h.normal in absurd (omega (arith, few, k))
  one_limit TooWide TooWide h k p q = refl
  one_limit TooWide TooManyStates h k p q = let same = ap is_found (one_walk too_wide too_many h k) in absurd (omega (arith, same))
  one_limit TooManyStates TooManyFormulas h k p q = let few = few_formulas h.nodes h.root h.normal in absurd (omega (arith, few, k))
  one_limit TooManyStates TooWide h k p q = let same = ap is_found (one_walk too_many too_wide h k) in absurd (omega (arith, same))
  one_limit TooManyStates TooManyStates h k p q = refl
  one_limit Memory e h k p q = absurd (p refl)
  one_limit d Memory h k p q = absurd (q refl)

pub automaton_is_one : AutomatonIsOne
automaton_is_one s who = record { one = one_automaton s who; no_limit = no_limit s who; one_limit = one_limit s who }
