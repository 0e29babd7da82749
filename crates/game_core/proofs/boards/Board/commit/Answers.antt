use Rattle.std.proofs.Common.{◌≡◌, ◌∙◌, ap, sym, subst, List, length, replicate, false}
use Rattle.std.specs.Prelude.{ℤ, option_map}
use Rattle.antichain_list.specs.Antichain.{IsAntichain}
use Rattle.counter_vec.specs.Counters.{at_or_below, lexicographic}
use Rattle.game_form.specs.Game.{GameData, IsGame}
use Rattle.cpre_step.specs.Refinement.{AreLeft}
use Rattle.game_core.specs.Board.{BoardData, CoversHeld, OutcomeData, replaced, IsLeft, IsAt}
use Rattle.game_core.proofs.Boarded.{exchanged_as, exchanged_view}
use Rattle.game_core.proofs.boards.Board.commit.Goals as goal

same : (c : goal.After-drop-game-in-Some-left) → c.self.inside.game.value ≡ c.o.inside.game.value
same c = sym c.deref-2.ensures ∙ c.same_game.ensures.0 c.if-not-same_game.false ∙ c.deref-3.ensures

list_is : (c : goal.After-drop-game-in-Some-left)
    → c.in_ok-self-inside-in-Some-left.field-0.value ≡ replaced c.self.inside.list.value c.in-Some.place c.in-Some-left.left.items
list_is c =
    c.in_ok-self-inside-in-Some-left.ensures.ok ∙ c.in_ok-list-in-Some-left.ensures
    ∙ ap (λ (l : List (List ℤ)). replaced l c.in-Some.place c.in-Some-left.left.items) c.deref-in-Some-left.ensures

marks_is : (c : goal.After-drop-game-in-Some-left)
    → c.in_ok-marks-in-Some-left.marks.items ≡ replicate (length c.in_ok-self-inside-in-Some-left.field-0.value) false
marks_is c =
    c.in_ok-marks-in-Some-left.ensures.items_if_clones_equal (λ y h. h)
    ∙ ap (λ n. replicate n false) (c.len.ensures.count ∙ ap length (sym c.in_ok-self-inside-in-Some-left.ensures.ok))

left_is : (c : goal.After-drop-game-in-Some-left) → AreLeft c.o.inside.game.value c.o.inside.snapshot.value c.o.inside.entry c.in-Some-left.left.items
left_is c =
    (subst (λ o. IsLeft c.o.inside.game.value c.o.inside.snapshot.value c.o.inside.entry (option_map (λ v. v.items) o)) c.in-Some-left.is c.o.invariant.refined).1

-- what is known of the outcome, in the board's game
in_game : (c : goal.After-drop-game-in-Some-left) (P : GameData → Type 0) → P c.o.inside.game.value → P c.self.inside.game.value
in_game c P h = subst P (sym (same c)) h

pub invariant_of-self : goal.invariant_of-self
invariant_of-self c =
    let f = c.o.inside.entry in
    let snapshot = c.o.inside.snapshot.value in
    let left = c.in-Some-left.left.items in
    exchanged_as c.self.inside.game.value c.self.inside.list.value snapshot c.in_ok-self-inside-in-Some-left.field-0.value left
    c.in_ok-marks-in-Some-left.marks.items c.in-Some.place f (subst IsGame c.deref.ensures c.known.ensures) c.self.invariant.vectors
    (subst (λ (l : List (List ℤ)). IsAt l c.in-Some.place f) c.deref-4.ensures c.in-Some.ensures) c.self.invariant.covers
    (in_game c (λ g. CoversHeld g snapshot) c.o.invariant.covers) (in_game c (λ g. AreLeft g snapshot f left) (left_is c))
    (subst (IsAntichain at_or_below lexicographic) (sym c.in_ok-self-inside-in-Some-left.ensures.ok) c.len.ensures.antichain) (list_is c) (marks_is c)

list_seen : (c : goal.After-drop-game-in-Some-left) → c.self.inside.list.value ≡ c.args.self.now.list
list_seen c = ap (λ (b : BoardData). b.list) c.self.view_is

pub returns-in-Some-left : goal.returns-in-Some-left
returns-in-Some-left c =
    let at = subst (λ (l : List (List ℤ)). IsAt l c.in-Some.place c.o.inside.entry) (c.deref-4.ensures ∙ list_seen c) c.in-Some.ensures in
    let game : c.self.inside.game.value ≡ c.args.self.now.game = ap (λ (b : BoardData). b.game) c.self.view_is in (
      sym game ∙ same c ∙ ap (λ (o : OutcomeData). o.game) c.o.view_is,
      (
        c.in-Some.place,
        subst (IsAt c.args.self.now.list c.in-Some.place) (ap (λ (o : OutcomeData). o.entry) c.o.view_is) at,
        (
          c.in-Some-left.left.items,
          sym (ap (λ (o : OutcomeData). o.left) c.o.view_is) ∙ ap (λ o. option_map (λ v. v.items) o) c.in-Some-left.is,
          exchanged_view c.args.self.now c.self.inside.game.value c.in_ok-self-inside-in-Some-left.field-0.value c.in-Some-left.left.items c.in_ok-marks-in-Some-left.marks.items c.in-Some.place
              game (list_is c ∙ ap (λ (l : List (List ℤ)). replaced l c.in-Some.place c.in-Some-left.left.items) (list_seen c)) (marks_is c),
        ),
      ),
    )
