-- Facts on what a call returned, made weaker.
use Rattle.std.proofs.Common.{Option, Some, None, IfSome, IfNone, Result, Ok, Err, IfOk}

pub ok_none_weaker : {A E P Q : Type 0} (r : Result (Option A) E) → IfOk r (λ o. IfNone o P) → (P → Q) → IfOk r (λ o. IfNone o Q)
ok_none_weaker (Ok None) h w = w h
ok_none_weaker (Ok (Some x)) h w = h
ok_none_weaker (Err e) h w = h

pub none_weaker : {A P Q : Type 0} (o : Option A) → IfNone o P → (P → Q) → IfNone o Q
none_weaker None h w = w h
none_weaker (Some x) h w = h

pub none_always : {A P : Type 0} (o : Option A) → P → IfNone o P
none_always None h = h
none_always (Some x) h = tt

pub ok_some_three : {A E : Type 0} (P Q R S : A → Type 0) (r : Result (Option A) E) → ((x : A) → P x → Q x → R x → S x)
    → IfOk r (λ o. IfSome o P) → IfOk r (λ o. IfSome o Q) → IfOk r (λ o. IfSome o R) → IfOk r (λ o. IfSome o S)
ok_some_three P Q R S (Ok None) w p q r = p
ok_some_three P Q R S (Ok (Some x)) w p q r = w x p q r
ok_some_three P Q R S (Err e) w p q r = p

pub ok_weaker : {A E : Type 0} (P Q : A → Type 0) (r : Result A E) → ((x : A) → P x → Q x) → IfOk r P → IfOk r Q
ok_weaker P Q (Ok x) w h = w x h
ok_weaker P Q (Err e) w h = h
