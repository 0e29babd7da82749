-- One text written after another.
use Rattle.std.proofs.Common.{◌≡◌, ℕ, zero, suc, ◌+◌, ◌-◌, ◌≤◌, List, [], ◌∷◌, ◌++◌, length, take, drop, refl, sym, ap, ◌∙◌, subst, arith, Option}
use Rattle.std.proofs.Math.Seq.{take-append-add}
use Rattle.std.proofs.lemmas.List.{take_all, take-take, take-append-drop, drop-take}
use Rattle.std.specs.Prelude.{Result, Ok, Err, IsErr}
use Rattle.shelf_io.specs.Faults.{Rose}
use Rattle.shelf_io.specs.Written.{appended, AppendsPrefix, appended-appended}
use Rattle.bonsai_run.specs.declared.faults.Fault.{Fault}
use Rattle.bonsai_run.specs.Faults.{fault_text}
use Rattle.bonsai_run.specs.Writing.{Writes, Tells}

take_fewer : (n : ℕ) (a b : List ℕ) → (m : ℕ) × (take m (a ++ b) ≡ take n a)
take_fewer zero a b = (zero, refl)
take_fewer (suc n) [] b = (zero, refl)
take_fewer (suc n) (x ∷ a) b = let r = take_fewer n a b in (suc r.0, ap (λ l. x ∷ l) r.1)

pub rose_later : (a b c : ℕ) → a ≤ b → Rose b c → Rose a c
rose_later a b c le h = grind (arith)

-- a part of the first text is one of both
pub part_first : (old new : Option (List ℕ)) (a b : List ℕ) → AppendsPrefix old new a → AppendsPrefix old new (a ++ b)
part_first old new a b p = let r = take_fewer p.0 a b in (r.0, p.1 ∙ ap (appended old) (sym r.1))

-- the first text whole and a part of the second are a part of both
pub part_second : (old mid new : Option (List ℕ)) (a b : List ℕ) → mid ≡ appended old a → AppendsPrefix mid new b → AppendsPrefix old new (a ++ b)
part_second old mid new a b h p =
    (length a + p.0, p.1 ∙ ap (λ o. appended o (take p.0 b)) h ∙ appended-appended old a (take p.0 b) ∙ ap (appended old) (sym (take-append-add a b p.0)))

pub both_whole : (old mid new : Option (List ℕ)) (a b : List ℕ) → mid ≡ appended old a → new ≡ appended mid b → new ≡ appended old (a ++ b)
both_whole old mid new a b h k = k ∙ ap (λ o. appended o b) h ∙ appended-appended old a b

pub whole_is_part : (old new : Option (List ℕ)) (a : List ℕ) → new ≡ appended old a → AppendsPrefix old new a
whole_is_part old new a h = (length a, h ∙ ap (appended old) (sym (take_all (length a) a (omega arith))))

-- what was told where a text was written as far as it went
pub tells : {T F : Type 0} (old new : Option (List ℕ)) (before now : ℕ) (text : List ℕ) (r : Result T F) → Writes old new before now text r → Tells old new before now text
tells old new before now text (Ok t) w = record { part = whole_is_part old new text w.all; whole = λ _. w.all }
tells old new before now text (Err e) w = record { part = w.part; whole = λ quiet. absurd (quiet w.cause) }

-- a text that failed in its first part
pub stops : {T F T' F' : Type 0} (old new : Option (List ℕ)) (before now : ℕ) (a b : List ℕ) (e : F) (r : Result T' F') → IsErr r → Writes {T = T} {F = F} old new before now a (Err e) → Writes old new before now (a ++ b) r
stops old new before now a b e (Ok t) h w = cc
stops old new before now a b e (Err f) h w = record { all = tt; part = part_first old new a b w.part; cause = w.cause; later = w.later }

-- a text whose first part was written, and then the rest as far as it went
pub goes_on : {T F T' F' : Type 0} (old mid new : Option (List ℕ)) (before between now : ℕ) (a b : List ℕ) (t : T) (r : Result T' F')
    → Writes {T = T} {F = F} old mid before between a (Ok t) → Writes mid new between now b r → Writes old new before now (a ++ b) r
goes_on old mid new before between now a b t (Ok u) w v =
    record { all = both_whole old mid new a b w.all v.all; part = tt; cause = tt; later = later }
  where
    le : before ≤ between
    le = w.later

    le' : between ≤ now
    le' = v.later

    later : before ≤ now
    later = omega arith
goes_on old mid new before between now a b t (Err e) w v =
    record { all = tt; part = part_second old mid new a b w.all v.part; cause = rose_later before between now w.later v.cause; later = later }
  where
    le : before ≤ between
    le = w.later

    le' : between ≤ now
    le' = v.later

    later : before ≤ now
    later = omega arith

-- the text of a fault, as that of the fault that it is
pub told_as : {T F : Type 0} (old new : Option (List ℕ)) (before now : ℕ) (name other : List ℕ) (f f' : Fault) (r : Result T F) → f ≡ f'
    → Writes old new before now (fault_text name other f') r → Writes old new before now (fault_text name other f) r
told_as old new before now name other f f' r h w = subst (λ x. Writes old new before now (fault_text name other x) r) (sym h) w

-- a text with an equal one in its place
pub same_text : {T F : Type 0} (old new : Option (List ℕ)) (before now : ℕ) (a b : List ℕ) (r : Result T F) → a ≡ b → Writes old new before now a r → Writes old new before now b r
same_text old new before now a b r h w = subst (λ x. Writes old new before now x r) h w

-- the line of a fault, with equal names in the place of its names
pub same_names : {T F : Type 0} (old new : Option (List ℕ)) (before now : ℕ) (n n' o o' : List ℕ) (f : Fault) (r : Result T F) → n ≡ n' → o ≡ o'
    → Writes old new before now (fault_text n o f) r → Writes old new before now (fault_text n' o' f) r
same_names old new before now n n' o o' f r h k w = subst (λ x. Writes old new before now (fault_text n' x f) r) k (subst (λ x. Writes old new before now (fault_text x o f) r) h w)

-- the lines of a text up to one place, and then up to a later one
pub lines_on : (text : List ℕ) (from to : ℕ) → from ≤ to → take to text ≡ take from text ++ take (to - from) (drop from text)
lines_on text from to le =
    sym (take-append-drop from (take to text)) ∙ ap (λ h. h ++ drop from (take to text)) (take-take from to text le) ∙ ap (λ r. take from text ++ r) (dropped from to le)
  where
    dropped : (from to : ℕ) → from ≤ to → drop from (take to text) ≡ take (to - from) (drop from text)
    dropped from to le = let e : to ≡ from + (to - from) = omega arith in ap (λ n. drop from (take n text)) e ∙ drop-take from (to - from) text

-- a part of a text that was written up to a place, and failed on its lines up to the next
pub begun_stops : {T F T' F' : Type 0} (old mid new : Option (List ℕ)) (before between now : ℕ) (text : List ℕ) (from to : ℕ) (e : F) (r : Result T' F') → IsErr r
    → mid ≡ appended old (take from text) → before ≤ between → from ≤ to
    → Writes {T = T} {F = F} mid new between now (take (to - from) (drop from text)) (Err e) → Writes old new before now text r
begun_stops {F = F} old mid new before between now text from to e r h m later le w =
    same_text old new before now (take to text ++ drop to text) text r (take-append-drop to text)
    (stops old new before now (take to text) (drop to text) e r h
    (same_text old new before now (take from text ++ take (to - from) (drop from text)) (take to text) (Err e) (sym (lines_on text from to le))
    (goes_on {T = Unit {0}} {F = F} old mid new before between now (take from text) (take (to - from) (drop from text)) tt (Err e) (record { all = m; part = tt; cause = tt; later = later }) w)))

-- a text that was written up to a place, and then up to the next
pub begun_goes_on : {T F : Type 0} (old mid new : Option (List ℕ)) (before between now : ℕ) (text : List ℕ) (from to : ℕ) (t : T)
    → mid ≡ appended old (take from text) → before ≤ between → from ≤ to
    → Writes {T = T} {F = F} mid new between now (take (to - from) (drop from text)) (Ok t) → (new ≡ appended old (take to text)) × (before ≤ now)
begun_goes_on old mid new before between now text from to t m later le w =
    (both_whole old mid new (take from text) (take (to - from) (drop from text)) m w.all ∙ ap (appended old) (sym (lines_on text from to le)), after before between now later w.later)
  where
    after : (a b c : ℕ) → a ≤ b → b ≤ c → a ≤ c
    after a b c h k = omega arith
