-- The lines of an entry answer from it.
use Rattle.std.proofs.Common.{◌≡◌, ℕ, ◌+◌, ◌*◌, ◌<◌, ◌^◌, Bool, true, false, cond, List, [], ◌∷◌, length, map, get_or, Option, Some, None, refl, sym, ◌∙◌, ap, subst, arith}
use Rattle.std.specs.Prelude.{ℤ}
use Rattle.std.specs.Option.{IsSomeAnd}
use Rattle.std.specs.List.{All, position_from}
use Rattle.std.specs.Option.{is_some}
use Rattle.std.proofs.lemmas.List.Elements.{All-head, All-tail, All-from_get_or, All-same}
use Rattle.word_core.specs.declared.names.Kind.{Kind}
use Rattle.word_core.specs.declared.names.Kind.TheVariants.{First, Second}
use Rattle.word_core.specs.declared.branches.Branch.{Branch}
use Rattle.word_core.specs.declared.cubes.Cube.{Cube}
use Rattle.word_core.specs.declared.machines.Line.{Line}
use Rattle.word_core.specs.Cube.{IsCube, holds}
use Rattle.word_core.specs.Machine.{choice}
use Rattle.word_core.specs.Tree.{label_of}
use Rattle.letter_tree.specs.Diagram.{TreeData}
use Rattle.letter_tree.specs.Splitting.{pattern_of, splitting}
use Rattle.game_form.specs.Game.{GameData, ClassData, IsGame, own_width, other_width, class_at, no_class, class_of, action_of}
use Rattle.strategy_play.specs.Answer.{answer_of, IsAnswer, Answers}
use Rattle.strategy_play.specs.Lead.{lead, next_at, AreNexts, pick_or, pick, ArePicks, AreNumbers, all_lead, leader, AreTargets}
use Rattle.strategy_play.specs.Line.{line_by_class, line_by_action}
use Rattle.strategy_play.proofs.Leading.{all_same, leader_within}
use Rattle.strategy_play.proofs.Made.{AreCubes, class_within, first_letter}
use Rattle.strategy_play.proofs.Halves.{want_within, want_held}
use Rattle.strategy_play.proofs.Splits.{splitting_holds}

pub some_and : {X : Type 0} (o : Option X) (P Q : X → Type 0) → ((x : X) → P x → Q x) → IsSomeAnd o P → IsSomeAnd o Q
some_and None P Q weaken h = h
some_and (Some x) P Q weaken h = weaken x h

-- what holds of the line of each cube that holds a valuation holds of the one that decides
module _ (f : Cube × ℕ → Line) (same : (p : Cube × ℕ) → (f p).when ≡ p.0) (Q : Line → Type 0) (x : ℕ) where
  pub decides : (cubes : List (Cube × ℕ)) (l : ℕ) → All (λ p. holds p.0 x ≡ true → Q (f p)) cubes → pattern_of cubes x ≡ Some l → IsSomeAnd (choice (map f cubes) x) Q
  decides [] l all e = absurd (cc)
  decides (p ∷ ps) l all e =
      subst (λ c. IsSomeAnd (cond (holds c x) (Some (f p)) (choice (map f ps) x)) Q) (sym (same p)) (go (holds p.0 x) refl (decides ps l (All-tail (λ p. holds p.0 x ≡ true → Q (f p)) p ps all)) e)
    where
      go : (b : Bool) → holds p.0 x ≡ b → (pattern_of ps x ≡ Some l → IsSomeAnd (choice (map f ps) x) Q) → cond b (Some p.1) (pattern_of ps x) ≡ Some l → IsSomeAnd (cond b (Some (f p)) (choice (map f ps) x)) Q
      go true here later is = All-head (λ p. holds p.0 x ≡ true → Q (f p)) p ps all here
      go false here later is = later is

-- the labels by equal lists
pub label_is : (tree : TreeData) (labels labels' : List ℕ) (nodes nodes' : List Branch) (own width width' : ℕ) → labels ≡ labels' → nodes ≡ nodes' → width ≡ width'
    → ((x : ℕ) → label_of tree.nodes x ≡ get_or labels (label_of nodes (own + x * 2 ^ width)) 0) → (x : ℕ) → label_of tree.nodes x ≡ get_or labels' (label_of nodes' (own + x * 2 ^ width')) 0
label_is tree labels labels' nodes nodes' own width width' a b c is x =
    is x ∙ ap (λ ls. get_or ls (label_of nodes (own + x * 2 ^ width)) 0) a ∙ ap (λ ns. get_or labels' (label_of ns (own + x * 2 ^ width)) 0) b ∙ ap (λ w. get_or labels' (label_of nodes' (own + x * 2 ^ w)) 0) c

-- the labels of what a cube holds are one
cube_label : (g : GameData) (tree : TreeData) (cubes : List (Cube × ℕ)) → AreCubes g tree cubes → All (λ p. IsCube (other_width g) p.0 × ((x : ℕ) → holds p.0 x ≡ true → label_of tree.nodes x ≡ label_of tree.nodes p.0.want)) cubes
cube_label g tree cubes are k d lt =
    let p = get_or cubes k d in
    let is : IsCube (other_width g) (get_or cubes k d).0 = subst (λ w. IsCube w (get_or cubes k d).0) are.width (are.within k d lt) in
    let held : (x : ℕ) → holds (get_or cubes k d).0 x ≡ true → label_of tree.nodes x ≡ (get_or cubes k d).1 =
    All-same (λ p. (x : ℕ) → holds p.0 x ≡ true → label_of tree.nodes x ≡ p.1) cubes (splitting tree.nodes) are.lines (splitting_holds tree.width tree.nodes are.rooted) k d lt in
    (is, λ x h. held x h ∙ sym (held (get_or cubes k d).0.want (want_held (other_width g) (get_or cubes k d).0 is)))

pub second_answers : (g : GameData) (nexts : List (Option ℕ)) (picks picks' : List (ℕ × ℕ)) (numbers : List ℕ) (cubes cubes' : List (Cube × ℕ)) (tree : TreeData) (out : List Line) → IsGame g → g.kind ≡ Second
    → ArePicks g (lead nexts) picks' → picks ≡ picks' → AreNumbers picks' numbers → AreCubes g tree cubes' → cubes ≡ cubes'
    → ((x : ℕ) → label_of tree.nodes x ≡ get_or numbers (class_of g (0 + x * 2 ^ 0)) 0)
    → out ≡ map (line_by_class g picks) cubes → Answers g (lead nexts) (λ n. n) out
second_answers g nexts picks picks' numbers cubes cubes' tree out known kind are same_picks numbered cubes_are same_cubes labelled made x in_x =
    subst (λ ls. IsSomeAnd (choice ls x) (λ l. IsAnswer g (lead nexts) x l.own l.next)) (sym (made ∙ ap (λ ps. map (line_by_class g ps) cubes) same_picks ∙ ap (map (line_by_class g picks')) same_cubes))
    (decides (line_by_class g picks') (λ p. refl) (λ l. IsAnswer g (lead nexts) x l.own l.next) x cubes' (label_of tree.nodes x) each (cubes_are.split x))
  where
    label : (y : ℕ) → label_of tree.nodes y ≡ get_or numbers (class_of g y) 0
    label y = let plain : 0 + y * 2 ^ 0 ≡ y = omega arith in labelled y ∙ ap (λ z. get_or numbers (class_of g z) 0) plain

    each : All (λ p. holds p.0 x ≡ true → IsAnswer g (lead nexts) x (line_by_class g picks' p).own (line_by_class g picks' p).next) cubes'
    each k d lt h =
        let p = get_or cubes' k d in
        let facts = cube_label g tree cubes' cubes_are k d lt in
        let want_in : (get_or cubes' k d).0.want < 2 ^ other_width g = want_within (other_width g) (get_or cubes' k d).0 facts.0 in
        let class_x = class_within g known x in_x in
        let class_want = class_within g known (get_or cubes' k d).0.want want_in in
        let one : get_or numbers (class_of g x) 0 ≡ get_or numbers (class_of g (get_or cubes' k d).0.want) 0 = sym (label x) ∙ facts.1 x h ∙ label (get_or cubes' k d).0.want in
        let same : get_or picks' (class_of g x) (0, 0) ≡ get_or picks' (class_of g (get_or cubes' k d).0.want) (0, 0) =
        numbered.same (class_of g x) (class_of g (get_or cubes' k d).0.want) (omega (arith, are.count)) (omega (arith, are.count)) one in
        subst (λ kind. answer_of kind g (lead nexts) x (line_by_class g picks' (get_or cubes' k d)).own (line_by_class g picks' (get_or cubes' k d)).next) (sym kind)
        (are.each (class_of g x) class_x ∙ ap (λ (q : ℕ × ℕ). Some q) same)

pub first_answers : (g : GameData) (nexts : List (Option ℕ)) (place own : ℕ) (class : ClassData) (targets targets' : List ℕ) (cubes cubes' : List (Cube × ℕ)) (tree : TreeData) (out : List Line) → g.kind ≡ First
    → leader (lead nexts) g.classes ≡ Some place → class ≡ class_at g place → own ≡ class.least → AreTargets nexts class.options targets' → targets ≡ targets' → AreCubes g tree cubes' → cubes ≡ cubes'
    → ((x : ℕ) → label_of tree.nodes x ≡ get_or targets' (label_of g.letters (own + x * 2 ^ own_width g)) 0)
    → out ≡ map (line_by_action g own targets) cubes → Answers g (lead nexts) (λ n. n) out
first_answers g nexts place own class targets targets' cubes cubes' tree out kind leads is own_is are same_targets cubes_are same_cubes labelled made x in_x =
    subst (λ ls. IsSomeAnd (choice ls x) (λ l. IsAnswer g (lead nexts) x l.own l.next)) (sym (made ∙ ap (λ ts. map (line_by_action g own ts) cubes) same_targets ∙ ap (map (line_by_action g own targets')) same_cubes))
    (decides (line_by_action g own targets') (λ p. refl) (λ l. IsAnswer g (lead nexts) x l.own l.next) x cubes' (label_of tree.nodes x) each (cubes_are.split x))
  where
    label : (y : ℕ) → label_of tree.nodes y ≡ get_or targets' (action_of g own y) 0
    label y = labelled y ∙ ap (λ z. get_or targets' (label_of g.letters z) 0) (sym (first_letter g own y kind))

    each : All (λ p. holds p.0 x ≡ true → IsAnswer g (lead nexts) x (line_by_action g own targets' p).own (line_by_action g own targets' p).next) cubes'
    each k d lt h =
        let facts = cube_label g tree cubes' cubes_are k d lt in
        let one : get_or targets' (action_of g own x) 0 ≡ get_or targets' (action_of g own (get_or cubes' k d).0.want) 0 = sym (label x) ∙ facts.1 x h ∙ label (get_or cubes' k d).0.want in
        let classes : class.options ≡ (class_at g place).options = ap (λ (c : ClassData). c.options) is in
        subst (λ kind. answer_of kind g (lead nexts) x own (get_or targets' (action_of g own (get_or cubes' k d).0.want) 0)) (sym kind)
        (record {
          place = place;
          leads = leads;
          own_is = own_is ∙ ap (λ (c : ClassData). c.least) is;
          entry_is = λ i in_i e.
              let at : (get_or class.options i (0, 0)).0 ≡ action_of g own x = ap (λ (os : List (ℕ × ℕ)). (get_or os i (0, 0)).0) classes ∙ e in
              let target : lead nexts (get_or class.options i (0, 0)).0 ≡ Some (get_or targets' (get_or class.options i (0, 0)).0 0) = are.each i (subst (λ (os : List (ℕ × ℕ)). i < length os) (sym classes) in_i) in
              subst (λ a. lead nexts a ≡ Some (get_or targets' a 0)) at target ∙ ap (λ (n : ℕ). Some n) one;
        })

-- answers are the same by the list of what actions lead to and by the entry
pick_same : (next next' : ℕ → Option ℕ) (options : List (ℕ × ℕ)) → All (λ o. next o.0 ≡ next' o.0) options → pick next options ≡ pick next' options
pick_same next next' [] h = refl
pick_same next next' (o ∷ os) h =
    ap (λ x. pick_or o.1 x (pick next os)) (All-head (λ o. next o.0 ≡ next' o.0) o os h) ∙ ap (pick_or o.1 (next' o.0)) (pick_same next next' os (All-tail (λ o. next o.0 ≡ next' o.0) o os h))

position_same : {X : Type 0} (p q : X → Bool) (n : ℕ) (xs : List X) → All (λ x. p x ≡ q x) xs → position_from p n xs ≡ position_from q n xs
position_same p q n [] h = refl
position_same p q n (x ∷ xs) h =
    ap (λ b. cond b (Some n) (position_from p (n + 1) xs)) (All-head (λ x. p x ≡ q x) x xs h) ∙ ap (cond (q x) (Some n)) (position_same p q (n + 1) xs (All-tail (λ x. p x ≡ q x) x xs h))

module _ (g : GameData) (entries : List (List ℤ)) (f : List ℤ) (nexts : List (Option ℕ)) (known : IsGame g) (are : AreNexts g entries f nexts) where
  agree : (c : ℕ) → c < length g.classes → All (λ o. lead nexts o.0 ≡ next_at g entries f o.0) (class_at g c).options
  agree c lt = All-from_get_or (λ o. lead nexts o.0 ≡ next_at g entries f o.0) (class_at g c).options (0, 0) (λ i in_i. are.each _ ((known.classes c lt).action i in_i))

  leader_same : leader (lead nexts) g.classes ≡ leader (next_at g entries f) g.classes
  leader_same =
      position_same (λ c. all_lead (lead nexts) c.options) (λ c. all_lead (next_at g entries f) c.options) 0 g.classes
      (All-from_get_or (λ c. all_lead (lead nexts) c.options ≡ all_lead (next_at g entries f) c.options) g.classes no_class (λ c lt.
      all_same (λ o. is_some (lead nexts o.0)) (λ o. is_some (next_at g entries f o.0)) (class_at g c).options
      (λ i d in_i. ap is_some (agree c lt i d in_i))))

  answer_same : (kind : Kind) (x own entry : ℕ) → x < 2 ^ other_width g → answer_of kind g (lead nexts) x own entry → answer_of kind g (next_at g entries f) x own entry
  answer_same First x own entry in_x h = record {
    place = h.place;
    leads = sym leader_same ∙ h.leads;
    own_is = h.own_is;
    entry_is = λ i in_i e.
        let action_in = (known.classes h.place (leader_within (lead nexts) g.classes h.place h.leads)).action i in_i in
        sym (are.each (action_of g own x) (subst (λ a. a < length g.actions) e action_in)) ∙ h.entry_is i in_i e;
  }
  answer_same Second x own entry in_x h = sym (pick_same (lead nexts) (next_at g entries f) (class_at g (class_of g x)).options (agree (class_of g x) (class_within g known x in_x))) ∙ h

  pub answers_same : (entry_of : ℕ → ℕ) (lines : List Line) → Answers g (lead nexts) entry_of lines → Answers g (next_at g entries f) entry_of lines
  answers_same entry_of lines h x in_x =
      some_and (choice lines x) (λ l. IsAnswer g (lead nexts) x l.own (entry_of l.next)) (λ l. IsAnswer g (next_at g entries f) x l.own (entry_of l.next)) (λ l. answer_same g.kind x l.own (entry_of l.next) in_x) (h x in_x)
