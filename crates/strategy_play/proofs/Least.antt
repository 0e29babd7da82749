-- The answers in an entry are the least valuations that stay, where classes and options are in the order of their valuations.
use Rattle.std.proofs.Common.{◌≡◌, ℕ, ◌<◌, ◌≤◌, ◌^◌, Bool, true, false, List, [], ◌∷◌, suc, length, get_or, nat_lt, Option, Some, None, refl, sym, ◌∙◌, ap, subst, arith}
use borrow.Author.Tests.{ltb-true, ltb-false}
use Rattle.std.specs.Prelude.{ℤ}
use Rattle.std.specs.List.{All}
use Rattle.std.specs.Option.{is_some, IsSome}
use Rattle.word_core.specs.declared.names.Kind.{Kind}
use Rattle.word_core.specs.declared.names.Kind.TheVariants.{First, Second}
use Rattle.word_core.specs.declared.machines.Line.{Line}
use Rattle.word_core.specs.Machine.{choice}
use Rattle.word_core.proofs.TreeLabels.{label_of-all}
use Rattle.game_form.specs.Covering.{covering_of, CoversLetters}
use Rattle.game_form.specs.Game.{GameData, IsGame, class_at, class_of, action_of, option_at, no_class, of_first, of_second, own_width, other_width}
use Rattle.game_form.specs.Letters.{letters_of, HasLetters}
use Rattle.strategy_play.specs.Answer.{answer_of, IsAnswer}
use Rattle.strategy_play.specs.Exact.{led_to, stays_by, IsLeast, IsMachineOfList}
use Rattle.strategy_play.specs.Lead.{next_at, all_lead}
use Rattle.strategy_play.specs.Ordered.{order_of, IsInOrder}
use Rattle.strategy_play.specs.Splitting.{AreSplit}
use Rattle.strategy_play.specs.Strategy.{entry_of_state, IsStrategy}
use Rattle.strategy_play.proofs.Answered.{some_and}
use Rattle.strategy_play.proofs.Kept.{answer_leads}
use Rattle.strategy_play.proofs.Leading.{all_passes, passes_none, pick_from, leader_leads, leader_within}
use Rattle.strategy_play.proofs.Made.{class_within}

-- all options lead where each does
all_from : (next : ℕ → Option ℕ) (options : List (ℕ × ℕ)) → ((i : ℕ) → i < length options → IsSome (next (get_or options i (0, 0)).0)) → all_lead next options ≡ true
all_from next [] each = refl
all_from next (o ∷ os) each = rw (each 0 (omega arith)) (all_from next os (λ i l. each (suc i) (omega arith)))

none_some : (o : Option ℕ) → o ≡ None → IsSome o → ⊥
none_some o e some = cc

module _ (g : GameData) (known : IsGame g) (entries : List (List ℤ)) (f : List ℤ) (other own entry : ℕ) (in_other : other < 2 ^ other_width g) where
  abbrev next : ℕ → Option ℕ
  next = next_at g entries f

  second_least : g.kind ≡ Second → letters_of Second g → order_of Second g → answer_of Second g next other own entry → IsLeast g entries f other own entry
  second_least kind letters order answer = record {
    within = in_own;
    stays = subst (λ k. stays_by k g entries f other own) (sym kind) (rw leads refl);
    least = λ x l stays. none x l (subst (λ k. stays_by k g entries f other x) kind stays);
    leads = leads;
  }
    where
      leads : led_to g entries f own other ≡ Some entry
      leads = answer_leads Second g next other own entry in_other letters answer

      class : class_of g other < length g.classes
      class = class_within g known other in_other

      in_own : own < 2 ^ own_width g
      in_own =
          let p = pick_from next (class_at g (class_of g other)).options (own, entry) answer in
          let reply = (known.classes (class_of g other) class).reply p.place p.within in
          subst (λ o. o < 2 ^ own_width g) p.own (subst (λ k. (option_at (class_at g (class_of g other)) p.place).1 < 2 ^ of_second k (own_width g) (other_width g)) kind reply)

      none : (x : ℕ) → x < own → IsSome (led_to g entries f x other) → ⊥
      none x l some =
          let p = pick_from next (class_at g (class_of g other)).options (own, entry) answer in
          let o = order.0 x other (omega (arith, l, in_own)) in_other in
          by p.place p.own p.before o.0 o.1 o.2 o.3 (nat_lt o.0 p.place) refl
        where
          by : (place : ℕ) → (get_or (class_at g (class_of g other)).options place (0, 0)).1 ≡ own
              → ((j : ℕ) → j < place → next (get_or (class_at g (class_of g other)).options j (0, 0)).0 ≡ None)
              → (j : ℕ) → j < length (class_at g (class_of g other)).options → (option_at (class_at g (class_of g other)) j).0 ≡ action_of g x other → (option_at (class_at g (class_of g other)) j).1 ≤ x
              → (b : Bool) → nat_lt j place ≡ b → ⊥
          by place is before j lj act low true e = none_some (next (action_of g x other)) (ap next (sym act) ∙ before j (ltb-true j place e)) some
          by place is before j lj act low false e =
              let more = order.1 (class_of g other) place j class (ltb-false j place e) lj in
              omega (arith, more, low, is, l)

  first_least : g.kind ≡ First → letters_of First g → covering_of First g → order_of First g → answer_of First g next other own entry → IsLeast g entries f other own entry
  first_least kind letters covers order answer = record {
    within = in_own;
    stays = subst (λ k. stays_by k g entries f other own) (sym kind) stays;
    least = λ x l s. none x l (subst (λ k. stays_by k g entries f other x) kind s);
    leads = answer_leads First g next other own entry in_other letters answer;
  }
    where
      place : ℕ
      place = answer.place

      class : place < length g.classes
      class = leader_within next g.classes answer.place answer.leads

      in_own : own < 2 ^ own_width g
      in_own =
          let least = (known.classes answer.place class).least in
          subst (λ o. o < 2 ^ own_width g) (sym answer.own_is) (subst (λ k. (class_at g answer.place).least < 2 ^ of_first k (own_width g) (other_width g)) kind least)

      stays : (x : ℕ) → x < 2 ^ other_width g → IsSome (led_to g entries f own x)
      stays x lx =
          let i = letters answer.place x class lx in
          let leads = all_passes (λ o. is_some (next o.0)) (class_at g answer.place).options i.0 (0, 0) (leader_leads g next answer.place answer.leads) i.1 in
          subst (λ a. IsSome (next a)) (i.2 ∙ ap (λ o. action_of g o x) (sym answer.own_is)) leads

      all_of : (x : ℕ) → x < 2 ^ own_width g → ((y : ℕ) → y < 2 ^ other_width g → IsSome (led_to g entries f x y)) → all_lead next (class_at g (class_of g x)).options ≡ true
      all_of x lx s =
          let c : class_of g x < length g.classes = label_of-all (λ l. l < length g.classes) g.firsts known.firsts.tree known.firsts.labels x in
          all_from next (class_at g (class_of g x)).options (λ i l.
          let reply = subst (λ k. (option_at (class_at g (class_of g x)) i).1 < 2 ^ of_second k (own_width g) (other_width g)) kind ((known.classes (class_of g x) c).reply i l) in
          subst (λ a. IsSome (next a)) (sym (covers x i lx l)) (s (option_at (class_at g (class_of g x)) i).1 reply))

      none : (x : ℕ) → x < own → ((y : ℕ) → y < 2 ^ other_width g → IsSome (led_to g entries f x y)) → ⊥
      none x l s =
          let lx : x < 2 ^ own_width g = omega (arith, l, in_own) in
          let c : class_of g x < length g.classes = label_of-all (λ l. l < length g.classes) g.firsts known.firsts.tree known.firsts.labels x in
          let low = order.0 x lx in
          by (nat_lt (class_of g x) answer.place) refl c low (all_of x lx s)
        where
          differ : false ≡ true → ⊥
          differ e = cc

          by : (b : Bool) → nat_lt (class_of g x) answer.place ≡ b → class_of g x < length g.classes → (class_at g (class_of g x)).least ≤ x → all_lead next (class_at g (class_of g x)).options ≡ true → ⊥
          by true e c low all = differ (sym (passes_none (λ c. all_lead next c.options) 0 g.classes answer.place (class_of g x) no_class answer.leads (omega (arith, ltb-true (class_of g x) answer.place e))) ∙ all)
          by false e c low all =
              let more = order.1 answer.place (class_of g x) (ltb-false (class_of g x) answer.place e) c in
              omega (arith, more, low, answer.own_is, l)

  least_by : (k : Kind) → g.kind ≡ k → letters_of k g → covering_of k g → order_of k g → answer_of k g next other own entry → IsLeast g entries f other own entry
  least_by First kind letters covers order answer = first_least kind letters covers order answer
  least_by Second kind letters covers order answer = second_least kind letters order answer

  pub answer_least : HasLetters g → CoversLetters g → IsInOrder g → IsAnswer g next other own entry → IsLeast g entries f other own entry
  answer_least letters covers order answer = least_by g.kind refl letters covers order answer

pub least_machine : (g : GameData) → IsGame g → (entries : List (List ℤ)) (states : List (List Line)) → HasLetters g → CoversLetters g → IsInOrder g → All (AreSplit (other_width g)) states → IsStrategy g entries states → IsMachineOfList g entries states
least_machine g known entries states letters covers order split is = record {
  order = is.order;
  count = is.count;
  within = is.within;
  once = is.once;
  first = is.first;
  choices = λ s other l lx.
      some_and (choice (get_or states s []) other)
      (λ line. IsAnswer g (next_at g entries (entry_of_state entries is.order s)) other line.own (get_or is.order line.next 0))
      (λ line. IsLeast g entries (entry_of_state entries is.order s) other line.own (get_or is.order line.next 0))
      (λ line answer. answer_least g known entries (entry_of_state entries is.order s) other line.own (get_or is.order line.next 0) lx letters covers order answer)
      (is.answers s l other lx);
  lines = split;
  breadth_first = is.breadth_first;
  met = is.met;
}
