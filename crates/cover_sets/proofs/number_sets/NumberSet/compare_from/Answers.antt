use Rattle.std.proofs.Common.{◌∙◌, ap, sym, cond}
use Rattle.std.specs.declared.cmp.Ordering.TheVariants.{Less, Greater}
use Rattle.cover_sets.proofs.Orders.{differ_at, first_has, second_has}
use Rattle.cover_sets.proofs.number_sets.NumberSet.compare_from.Goals as goal

pub overflow_shr-self : goal.overflow_shr-self
overflow_shr-self c =
    (differ_at c.args.self.now.words c.args.other.now.words c.args.i c.args.self.now.fit c.args.other.now.fit c.requires.place c.requires.same c.requires.differ).bit

pub goes_on-requires-else-self-i-eq1-clause-bit : goal.goes_on-requires-else-self-i-eq1-clause-bit
goes_on-requires-else-self-i-eq1-clause-bit c =
    (differ_at c.args.self.now.words c.args.other.now.words c.args.i c.args.self.now.fit c.args.other.now.fit c.requires.place c.requires.same c.requires.differ).bit

pub returns-then-goes_on : goal.returns-then-goes_on
returns-then-goes_on c =
    let d = differ_at c.args.self.now.words c.args.other.now.words c.args.i c.args.self.now.fit c.args.other.now.fit c.requires.place c.requires.same c.requires.differ in
    sym (first_has c.args.self.now.words c.args.other.now.words c.args.i _ d c.if-self-i-eq1.true ∙ ap (λ b. cond b Less Greater) (sym c.goes_on.ensures ∙ c.if-goes_on.true))

pub returns-else-goes_on : goal.returns-else-goes_on
returns-else-goes_on c =
    let d = differ_at c.args.self.now.words c.args.other.now.words c.args.i c.args.self.now.fit c.args.other.now.fit c.requires.place c.requires.same c.requires.differ in
    sym (first_has c.args.self.now.words c.args.other.now.words c.args.i _ d c.if-self-i-eq1.true ∙ ap (λ b. cond b Less Greater) (sym c.goes_on.ensures ∙ c.if-goes_on.false))

pub returns-then-goes_on-2 : goal.returns-then-goes_on-2
returns-then-goes_on-2 c =
    let d = differ_at c.args.self.now.words c.args.other.now.words c.args.i c.args.self.now.fit c.args.other.now.fit c.requires.place c.requires.same c.requires.differ in
    sym (second_has c.args.self.now.words c.args.other.now.words c.args.i _ d c.if-self-i-eq1.false ∙ ap (λ b. cond b Greater Less) (sym c.goes_on-else-self-i-eq1.ensures ∙ c.if-goes_on-2.true))

pub returns-else-goes_on-2 : goal.returns-else-goes_on-2
returns-else-goes_on-2 c =
    let d = differ_at c.args.self.now.words c.args.other.now.words c.args.i c.args.self.now.fit c.args.other.now.fit c.requires.place c.requires.same c.requires.differ in
    sym (second_has c.args.self.now.words c.args.other.now.words c.args.i _ d c.if-self-i-eq1.false ∙ ap (λ b. cond b Greater Less) (sym c.goes_on-else-self-i-eq1.ensures ∙ c.if-goes_on-2.false))
