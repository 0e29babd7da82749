-- The game of parts that are numbered by what has them first.
use Rattle.std.proofs.Common.{◌≡◌, ℕ, ◌+◌, ◌*◌, ◌<◌, ◌^◌, Bool, List, refl, sym, ◌∙◌, subst, arith}
use Rattle.std.specs.Prelude.{ℤ, Option}
use Rattle.std.proofs.lemmas.List.Elements.{All-weaker}
use Rattle.word_core.specs.declared.names.Kind.{Kind}
use Rattle.word_core.specs.declared.names.Kind.TheVariants.{First, Second}
use Rattle.word_core.specs.declared.names.Player.{Player}
use Rattle.word_core.specs.declared.names.Player.TheVariants.{System, Environment}
use Rattle.word_core.specs.Automaton.{AutomatonData}
use Rattle.game_form.specs.Game.{GameData, first_width, second_width}
use Rattle.action_groups.specs.declared.games.Parts.{Parts}
use Rattle.action_groups.specs.Actions.{inputs_lead}
use Rattle.action_groups.specs.Grouped.{letter_at, answer, AreValuations, HasFirstLetter, AreOptionsAt, IsGrouped}
use Rattle.action_groups.specs.Parts.{listed_at, part_answer, part_class, AreSides, HasSameActions, HasPartLetter, ArePartOptions, AreNumbered}
use Rattle.action_groups.specs.Rows.{HasRows}
use Rattle.action_groups.specs.Sides.{leading, following, letter_number}
use Rattle.action_groups.specs.Tests.{IsLetterOf}
use Rattle.action_groups.proofs.Letters.{inputs_first, outputs_first}

abbrev game : Player → Kind → ℕ → ℕ → ℤ → Option ℕ → Parts → GameData
game player kind n m k init p = record {
  player = player;
  kind = kind;
  inputs = n;
  outputs = m;
  k = k;
  init = init;
  actions = p.actions.items;
  classes = p.classes.items;
  letters = p.letters.items;
  firsts = p.firsts.items;
}

-- the letter of two sides as a number, and its bits
letter_is : (player : Player) (kind : Kind) (n m : ℕ) (k : ℤ) (init : Option ℕ) (p : Parts) (f s : ℕ) → letter_at (game player kind n m k init p) f s ≡ letter_number n (inputs_lead player kind) f s
letter_is System First n m k init p f s = omega arith
letter_is System Second n m k init p f s = omega arith
letter_is Environment First n m k init p f s = omega arith
letter_is Environment Second n m k init p f s = omega arith

letter_bits : (player : Player) (kind : Kind) (n m : ℕ) (k : ℤ) (init : Option ℕ) (p : Parts) (f s : ℕ) → AreValuations (game player kind n m k init p) f s
    → IsLetterOf n m (inputs_lead player kind) (letter_at (game player kind n m k init p) f s) (f + s * 2 ^ leading n m (inputs_lead player kind))
letter_bits System First n m k init p f s h = outputs_first n m (inputs_lead System First) s f refl h.1 h.0
letter_bits System Second n m k init p f s h = inputs_first n m (inputs_lead System Second) f s refl
letter_bits Environment First n m k init p f s h = inputs_first n m (inputs_lead Environment First) f s refl
letter_bits Environment Second n m k init p f s h = outputs_first n m (inputs_lead Environment Second) s f refl h.1 h.0

sides_are : (player : Player) (kind : Kind) (n m : ℕ) (k : ℤ) (init : Option ℕ) (p : Parts) (f s : ℕ) → AreValuations (game player kind n m k init p) f s → AreSides n m (inputs_lead player kind) f s
sides_are System First n m k init p f s h = h
sides_are System Second n m k init p f s h = h
sides_are Environment First n m k init p f s h = h
sides_are Environment Second n m k init p f s h = h

sides_of : (player : Player) (kind : Kind) (n m : ℕ) (k : ℤ) (init : Option ℕ) (p : Parts) (f s : ℕ) → AreSides n m (inputs_lead player kind) f s → AreValuations (game player kind n m k init p) f s
sides_of System First n m k init p f s h = h
sides_of System Second n m k init p f s h = h
sides_of Environment First n m k init p f s h = h
sides_of Environment Second n m k init p f s h = h

answer_is : (player : Player) (kind : Kind) (n m : ℕ) (k : ℤ) (init : Option ℕ) (p : Parts) (f s : ℕ) → answer (game player kind n m k init p) f s ≡ part_answer n m (inputs_lead player kind) p f s
answer_is System First n m k init p f s = refl
answer_is System Second n m k init p f s = refl
answer_is Environment First n m k init p f s = refl
answer_is Environment Second n m k init p f s = refl

first_is : (player : Player) (kind : Kind) (n m : ℕ) (k : ℤ) (init : Option ℕ) (p : Parts) → first_width (game player kind n m k init p) ≡ leading n m (inputs_lead player kind)
first_is System First n m k init p = refl
first_is System Second n m k init p = refl
first_is Environment First n m k init p = refl
first_is Environment Second n m k init p = refl

second_is : (player : Player) (kind : Kind) (n m : ℕ) (k : ℤ) (init : Option ℕ) (p : Parts) → second_width (game player kind n m k init p) ≡ following n m (inputs_lead player kind)
second_is System First n m k init p = refl
second_is System Second n m k init p = refl
second_is Environment First n m k init p = refl
second_is Environment Second n m k init p = refl

module _ (a : AutomatonData) (player : Player) (kind : Kind) (n m : ℕ) (k : ℤ) (init : Option ℕ) (p : Parts)
    (same : HasSameActions n m (inputs_lead player kind) a p) (h : AreNumbered n m (inputs_lead player kind) p) where
  abbrev g : GameData
  g = game player kind n m k init p

  abbrev lead : Bool
  lead = inputs_lead player kind

  answer_at : (f s : ℕ) → answer g f s ≡ part_answer n m lead p f s
  answer_at f s = answer_is player kind n m k init p f s

  first_letter : (action : ℕ) → HasPartLetter n m lead p action → HasFirstLetter g action
  first_letter action w = record {
    first = w.first;
    second = w.second;
    within = sides_of player kind n m k init p w.first w.second w.within;
    has = answer_at w.first w.second ∙ w.has;
    before = λ f s sides less. (
        let smaller : letter_number n lead f s < letter_number n lead w.first w.second =
        subst (λ y. letter_number n lead f s < y) (letter_is player kind n m k init p w.first w.second) (subst (λ x. x < letter_at g w.first w.second) (letter_is player kind n m k init p f s) less) in
        subst (λ x. x < action) (sym (answer_at f s)) (w.before f s (sides_are player kind n m k init p f s sides) smaller));
  }

  options_at : (f : ℕ) (options : List (ℕ × ℕ)) → ArePartOptions n m lead p f options → AreOptionsAt g f options
  options_at f options w =
      let wide : second_width g ≡ following n m lead = second_is player kind n m k init p in
      let P : ℕ × ℕ → Type 0 = λ o. (o.1 < 2 ^ following n m lead) × (part_answer n m lead p f o.1 ≡ o.0) in
      let Q : ℕ × ℕ → Type 0 = λ o. (o.1 < 2 ^ second_width g) × (answer g f o.1 ≡ o.0) in
      let step : (o : ℕ × ℕ) → P o → Q o = λ o e. (subst (λ x. o.1 < 2 ^ x) (sym wide) e.0, answer_at f o.1 ∙ e.1) in
      record {
        each = All-weaker P Q step options w.each;
        least = λ s lt. (let o = w.least s (subst (λ x. s < 2 ^ x) wide lt) in (o.0, o.1, o.2 ∙ sym (answer_at f s), o.3));
        rising = w.rising;
      }

  pub grouped : HasRows a g → IsGrouped a g
  grouped rows =
      let wide : first_width g ≡ leading n m lead = first_is player kind n m k init p in
      record {
        rows = rows;
        same_action = λ f s f' s' v v' e.
            answer_at f s
            ∙ same (letter_at g f s) (f + s * 2 ^ leading n m lead) (letter_at g f' s') (f' + s' * 2 ^ leading n m lead) (letter_bits player kind n m k init p f s v) (letter_bits player kind n m k init p f' s' v') e
            ∙ sym (answer_at f' s');
        actions = λ action lt. first_letter action (h.actions action lt);
        options = λ f lt. options_at f (listed_at p (part_class p f)).options (h.options f (subst (λ x. f < 2 ^ x) wide lt));
        same_class = λ f f' lt lt' e. h.same_class f f' (subst (λ x. f < 2 ^ x) wide lt) (subst (λ x. f' < 2 ^ x) wide lt') e;
        classes = λ place lt. record { has = h.class_least place lt; before = λ f less. h.class_before place f lt less };
      }
