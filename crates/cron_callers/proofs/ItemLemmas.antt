-- A walk just made, and lists that are taken while a test passes.
use Rattle.std.proofs.Common.{◌≡◌, ℤ, ◌≤ℤ◌, ◌<ℤ◌, int_le, Bool, true, false, List, [], ◌∷◌, ◌++◌, refl, one-add, sym, append_assoc, ◌∙◌, ap, arith}
use Rattle.std.proofs.lemmas.Int.{ints}
use Rattle.std.proofs.lemmas.List.{append-nil}
use Rattle.std.specs.List.{take_while}
use Rattle.jiff_core.specs.declared.civil.date.Date.{Date}
use Rattle.jiff_core.specs.Date.{epoch_day}
use Rattle.jiff_tz.specs.declared.timezone.TimeZone.{TimeZone}
use Rattle.cron.specs.Words.{civil, Walk, Start, Reading, rest_ahead, rest_back, Sets}
use Rattle.cron_callers.specs.Items.{items_ahead, items_back, is_through}

pub items_ahead-walk : (w : Walk) (s : Sets) (z : TimeZone) (t : ℤ) → w.sets ≡ s → w.zone ≡ z → w.cursor ≡ Start t → rest_ahead w ≡ items_ahead s z t
items_ahead-walk w s z t sets zone cursor = rw (sets, zone, cursor) refl

pub items_back-walk : (w : Walk) (s : Sets) (z : TimeZone) (t : ℤ) → w.sets ≡ s → w.zone ≡ z → w.cursor ≡ Start t → rest_back w ≡ items_back s z t
items_back-walk w s z t sets zone cursor = rw (sets, zone, cursor) refl

int_le-from : (b c : ℤ) → b ≤ℤ c → int_le b c ≡ true
int_le-from b c h = grind (arith, ints)

pub int_le-past : (b c : ℤ) → c <ℤ b → int_le b c ≡ false
int_le-past b c h = grind (arith, ints)

-- the item's day and the last one, compared
pub is_through-from : (date : Date) (r : Reading) (day last : ℤ) → day ≡ epoch_day (civil r.second).date → last ≡ epoch_day date → day ≤ℤ last
    → is_through date r ≡ true
is_through-from date r day last e f h = ap (λ d. int_le d (epoch_day date)) (sym e) ∙ ap (λ d. int_le day d) (sym f) ∙ int_le-from day last h

pub is_through-past : (date : Date) (r : Reading) (day last : ℤ) → day ≡ epoch_day (civil r.second).date → last ≡ epoch_day date → last <ℤ day
    → is_through date r ≡ false
is_through-past date r day last e f h = ap (λ d. int_le d (epoch_day date)) (sym e) ∙ ap (λ d. int_le day d) (sym f) ∙ int_le-past day last h

pub take_while-passes : {X : Type 0} (p : X → Bool) (x : X) (xs all : List X) → all ≡ x ∷ xs → p x ≡ true → take_while p all ≡ x ∷ take_while p xs
take_while-passes p x xs all e h = rw e (rw h (rw one-add refl))

pub take_while-fails : {X : Type 0} (p : X → Bool) (x : X) (xs all : List X) → all ≡ x ∷ xs → p x ≡ false → take_while p all ≡ []
take_while-fails p x xs all e h = rw e (rw h refl)

-- one more is taken
pub taken-more : {X : Type 0} (p : X → Bool) (x : X) (all taken more old rest : List X) → all ≡ taken ++ take_while p old → old ≡ x ∷ rest → p x ≡ true
    → more ≡ taken ++ x ∷ [] → all ≡ more ++ take_while p rest
taken-more p x all taken more old rest so_far e h pushed =
    so_far ∙ ap (λ t. taken ++ t) (take_while-passes p x rest old e h) ∙ sym (append_assoc taken (x ∷ []) (take_while p rest))
    ∙ ap (λ t. t ++ take_while p rest) (sym pushed)

-- all are taken where the next one fails
pub taken-all : {X : Type 0} (p : X → Bool) (x : X) (all taken old rest : List X) → all ≡ taken ++ take_while p old → old ≡ x ∷ rest → p x ≡ false → taken ≡ all
taken-all p x all taken old rest so_far e h =
    sym (so_far ∙ ap (λ t. taken ++ t) (take_while-fails p x rest old e h) ∙ append-nil taken)

-- or where none is left
pub taken-end : {X : Type 0} (p : X → Bool) (all taken old : List X) → all ≡ taken ++ take_while p old → old ≡ [] → taken ≡ all
taken-end p all taken old so_far e = sym (so_far ∙ ap (λ t. taken ++ take_while p t) e ∙ append-nil taken)
