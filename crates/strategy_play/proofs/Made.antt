-- Lines made of cubes.
use Rattle.std.proofs.Common.{◌≡◌, ℕ, ◌+◌, ◌*◌, ◌<◌, ◌^◌, Bool, true, false, cond, List, [], ◌∷◌, length, map, get_or, Option, Some, refl, sym, ◌∙◌, ap, subst, arith}
use Rattle.std.specs.Option.{is_some, IsSome}
use Rattle.std.specs.List.{All}
use Rattle.std.proofs.lemmas.List.{get_or-map, length-map}
use Rattle.std.proofs.lemmas.List.Elements.{All-map, All-weaker}
use Rattle.word_core.specs.declared.names.Kind.TheVariants.{First, Second}
use Rattle.word_core.specs.declared.cubes.Cube.{Cube}
use Rattle.word_core.specs.declared.machines.Line.{Line}
use Rattle.word_core.specs.Cube.{IsCube, holds}
use Rattle.word_core.specs.Machine.{choice, IsLine, IsDecided, HasOneOwn}
use Rattle.word_core.proofs.TreeLabels.{label_of-all}
use Rattle.letter_tree.specs.Splitting.{pattern_of, splitting}
use Rattle.letter_tree.specs.Diagram.{TreeData, IsRooted}
use Rattle.word_core.specs.Tree.{label_of}
use Rattle.game_form.specs.Game.{GameData, ClassData, IsGame, IsClass, own_width, other_width, class_at, option_at, of_first, of_second, class_of, action_of, letter_of}
use Rattle.strategy_play.specs.Lead.{lead, LeadBelow, ArePicks, AreNumbers, AreTargets}
use Rattle.strategy_play.specs.Line.{line_by_class, line_by_action}
use Rattle.strategy_play.specs.Splitting.{AreSplit}
use Rattle.strategy_play.specs.State.{IsState}
use Rattle.strategy_play.proofs.Leading.{picks_within}
use Rattle.strategy_play.proofs.Halves.{want_within}
use Rattle.strategy_play.proofs.Splits.{line, splitting_splits}

module _ (f : Cube × ℕ → Line) (same : (p : Cube × ℕ) → (f p).when ≡ p.0) where
  chosen : (cubes : List (Cube × ℕ)) (x l : ℕ) → pattern_of cubes x ≡ Some l → IsSome (choice (map f cubes) x)
  chosen [] x l e = absurd (cc)
  chosen (p ∷ ps) x l e =
      subst (λ c. is_some (cond (holds c x) (Some (f p)) (choice (map f ps) x)) ≡ true) (sym (same p)) (go (holds p.0 x) (chosen ps x l) e)
    where
      go : (b : Bool) → (pattern_of ps x ≡ Some l → IsSome (choice (map f ps) x)) → cond b (Some p.1) (pattern_of ps x) ≡ Some l → is_some (cond b (Some (f p)) (choice (map f ps) x)) ≡ true
      go true later is = refl
      go false later is = later is

  -- lines with the cubes of a splitting decide each valuation
  pub decided_by : (width : ℕ) (cubes : List (Cube × ℕ)) (label : ℕ → ℕ) → ((x : ℕ) → pattern_of cubes x ≡ Some (label x)) → IsDecided width (map f cubes)
  decided_by width cubes label split x lt = chosen cubes x (label x) (split x)

one_own : (own : ℕ) (f : Cube × ℕ → Line) → ((p : Cube × ℕ) → (f p).own ≡ own) → (cubes : List (Cube × ℕ)) → HasOneOwn (map f cubes)
one_own own f same cubes d i j in_i in_j =
    let n = length-map cubes f in
    let at = λ (k : ℕ) (lt : k < length cubes). ap (λ (l : Line). l.own) (get_or-map f cubes k (record { care = 0; want = 0 }, 0) d lt) ∙ same (get_or cubes k (record { care = 0; want = 0 }, 0)) in
    at i (omega arith) ∙ sym (at j (omega arith))

-- the lines by class make a state
pub second_state : (g : GameData) (nexts : List (Option ℕ)) (picks : List (ℕ × ℕ)) (cubes : List (Cube × ℕ)) (label : ℕ → ℕ) → IsGame g → g.kind ≡ Second → ArePicks g (lead nexts) picks
    → ((x : ℕ) → x < 2 ^ other_width g → class_of g x < length g.classes)
    → All (λ p. IsCube (other_width g) p.0) cubes → ((x : ℕ) → pattern_of cubes x ≡ Some (label x)) → AreSplit (other_width g) (map (line_by_class g picks) cubes)
    → (count : ℕ) → LeadBelow count nexts → IsState g count (map (line_by_class g picks) cubes)
second_state g nexts picks cubes label known kind are class_in cubes_in split parts count below = record {
  ranged = All-map (IsLine (own_width g) (other_width g) count) (line_by_class g picks) cubes
      (All-weaker (λ p. IsCube (other_width g) p.0) (λ p. IsLine (own_width g) (other_width g) count (line_by_class g picks p)) (λ p is. line p is) cubes cubes_in);
  decided = decided_by (line_by_class g picks) (λ p. refl) (other_width g) cubes label split;
  first = λ e. absurd (let h = sym kind ∙ e in cc);
  split = parts;
}
  where
    line : (p : Cube × ℕ) → IsCube (other_width g) p.0 → IsLine (own_width g) (other_width g) count (line_by_class g picks p)
    line p is =
        let c = class_of g p.0.want in
        let lt = class_in p.0.want (want_within (other_width g) p.0 is) in
        let r = picks_within g nexts picks known are count c lt below in
        let reply : (get_or picks c (0, 0)).0 < 2 ^ own_width g =
        subst (λ n. n < 2 ^ own_width g) r.0.own (subst (λ k. (option_at (class_at g c) r.0.place).1 < 2 ^ of_second k (own_width g) (other_width g)) kind ((known.classes c lt).reply r.0.place r.0.within)) in
        (is, reply, r.1)

-- the lines by action make a state
pub first_state : (g : GameData) (own : ℕ) (targets : List ℕ) (cubes : List (Cube × ℕ)) (label : ℕ → ℕ) (count : ℕ) → own < 2 ^ own_width g
    → ((a : ℕ) → get_or targets a 0 < count)
    → All (λ p. IsCube (other_width g) p.0) cubes → ((x : ℕ) → pattern_of cubes x ≡ Some (label x)) → AreSplit (other_width g) (map (line_by_action g own targets) cubes)
    → IsState g count (map (line_by_action g own targets) cubes)
first_state g own targets cubes label count own_in below cubes_in split parts = record {
  ranged = All-map (IsLine (own_width g) (other_width g) count) (line_by_action g own targets) cubes
      (All-weaker (λ p. IsCube (other_width g) p.0) (λ p. IsLine (own_width g) (other_width g) count (line_by_action g own targets p)) (λ p is. (is, own_in, below (action_of g own p.0.want))) cubes cubes_in);
  decided = decided_by (line_by_action g own targets) (λ p. refl) (other_width g) cubes label split;
  first = λ e. one_own own (line_by_action g own targets) (λ p. refl) cubes;
  split = parts;
}

-- under First a letter begins with the player's own part
pub first_letter : (g : GameData) (own x : ℕ) → g.kind ≡ First → letter_of g own x ≡ own + x * 2 ^ own_width g
first_letter g own x kind = ap (λ k. of_first k own x + of_second k own x * 2 ^ of_first k (own_width g) (other_width g)) kind

-- the lines of a tree of the other's valuations, as the code has them
pub record AreCubes (g : GameData) (tree : TreeData) (cubes : List (Cube × ℕ)) : Type 0 where
  pub width : tree.width ≡ other_width g
  pub rooted : IsRooted tree.width tree.nodes
  pub lines : cubes ≡ splitting tree.nodes
  pub within : All (λ p. IsCube tree.width p.0) cubes
  pub split : (x : ℕ) → pattern_of cubes x ≡ Some (label_of tree.nodes x)

-- the lines of a tree's splitting split the valuations, where values are equal exactly where labels are
cubes_split : (g : GameData) (tree : TreeData) (cubes : List (Cube × ℕ)) (value : ℕ → ℕ × ℕ) → AreCubes g tree cubes
    → ((x y : ℕ) → x < 2 ^ other_width g → y < 2 ^ other_width g → label_of tree.nodes x ≡ label_of tree.nodes y → value x ≡ value y)
    → ((x y : ℕ) → x < 2 ^ other_width g → y < 2 ^ other_width g → value x ≡ value y → label_of tree.nodes x ≡ label_of tree.nodes y)
    → AreSplit (other_width g) (map (line value) cubes)
cubes_split g tree cubes value are same apart =
    subst (λ cs. AreSplit (other_width g) (map (line value) cs)) (sym are.lines)
    (splitting_splits (other_width g) tree.nodes (subst (λ w. IsRooted w tree.nodes) are.width are.rooted) value same apart)

pub second_made : (g : GameData) (nexts : List (Option ℕ)) (picks picks' : List (ℕ × ℕ)) (numbers : List ℕ) (cubes cubes' : List (Cube × ℕ)) (tree : TreeData) (out : List Line) → IsGame g → g.kind ≡ Second
    → ArePicks g (lead nexts) picks' → picks ≡ picks' → AreNumbers picks' numbers → AreCubes g tree cubes' → cubes ≡ cubes'
    → ((x : ℕ) → label_of tree.nodes x ≡ get_or numbers (class_of g (0 + x * 2 ^ 0)) 0)
    → ((x : ℕ) → x < 2 ^ other_width g → class_of g x < length g.classes)
    → out ≡ map (line_by_class g picks) cubes → (count : ℕ) → LeadBelow count nexts → IsState g count out
second_made g nexts picks picks' numbers cubes cubes' tree out known kind are same_picks numbered cubes_are same_cubes labelled class_in made count below =
    subst (IsState g count) (sym (made ∙ ap (λ ps. map (line_by_class g ps) cubes) same_picks ∙ ap (map (line_by_class g picks')) same_cubes))
    (second_state g nexts picks' cubes' (label_of tree.nodes) known kind are class_in
    (subst (λ w. All (λ p. IsCube w p.0) cubes') cubes_are.width cubes_are.within) cubes_are.split
    (cubes_split g tree cubes' (λ x. get_or picks' (class_of g x) (0, 0)) cubes_are
    (λ x y lx ly e. numbered.same (class_of g x) (class_of g y) (place x lx) (place y ly) (sym (label x) ∙ e ∙ label y))
    (λ x y lx ly e. label x ∙ numbered.once (class_of g x) (class_of g y) (place x lx) (place y ly) e ∙ sym (label y))) count below)
  where
    label : (x : ℕ) → label_of tree.nodes x ≡ get_or numbers (class_of g x) 0
    label x = let plain : 0 + x * 2 ^ 0 ≡ x = omega arith in labelled x ∙ ap (λ z. get_or numbers (class_of g z) 0) plain

    place : (x : ℕ) → x < 2 ^ other_width g → class_of g x < length picks'
    place x lx = omega (arith, class_in x lx, are.count)

pub first_made : (g : GameData) (nexts : List (Option ℕ)) (class : ClassData) (own : ℕ) (targets targets' : List ℕ) (cubes cubes' : List (Cube × ℕ)) (tree : TreeData) (out : List Line) → g.kind ≡ First
    → IsClass g class → own ≡ class.least → AreTargets nexts class.options targets' → targets ≡ targets' → AreCubes g tree cubes' → cubes ≡ cubes'
    → ((x : ℕ) → label_of tree.nodes x ≡ get_or targets' (label_of g.letters (own + x * 2 ^ own_width g)) 0)
    → out ≡ map (line_by_action g own targets) cubes → (count : ℕ) → 0 < count → LeadBelow count nexts → IsState g count out
first_made g nexts class own targets targets' cubes cubes' tree out kind is own_is are same_targets cubes_are same_cubes labelled made count some below =
    let own_in : own < 2 ^ own_width g = subst (λ n. n < 2 ^ own_width g) (sym own_is) (subst (λ k. class.least < 2 ^ of_first k (own_width g) (other_width g)) kind is.least) in
    subst (IsState g count) (sym (made ∙ ap (λ ts. map (line_by_action g own ts) cubes) same_targets ∙ ap (map (line_by_action g own targets')) same_cubes))
    (first_state g own targets' cubes' (label_of tree.nodes) count own_in (are.below count some below)
    (subst (λ w. All (λ p. IsCube w p.0) cubes') cubes_are.width cubes_are.within) cubes_are.split
    (cubes_split g tree cubes' (λ x. (own, get_or targets' (action_of g own x) 0)) cubes_are
    (λ x y lx ly e. ap (λ (n : ℕ). (own, n)) (sym (label x) ∙ e ∙ label y))
    (λ x y lx ly e. label x ∙ ap (λ (v : ℕ × ℕ). v.1) e ∙ sym (label y))))
  where
    label : (x : ℕ) → label_of tree.nodes x ≡ get_or targets' (action_of g own x) 0
    label x = labelled x ∙ ap (λ z. get_or targets' (label_of g.letters z) 0) (sym (first_letter g own x kind))

-- each valuation of the first mover has a class
pub class_within : (g : GameData) → IsGame g → (x : ℕ) → x < 2 ^ other_width g → class_of g x < length g.classes
class_within g known x lt = label_of-all (λ l. l < length g.classes) g.firsts known.firsts.tree known.firsts.labels x
