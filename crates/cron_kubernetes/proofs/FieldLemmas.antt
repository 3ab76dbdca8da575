-- Five fields, one after another, and their sets.
use Rattle.std.proofs.Common.{◌≡◌, ◌≤◌, ◌<◌, ◌-◌, ◌^◌, ◌++◌, ◌||◌, ◌==◌, ℕ, true, false, List, [], ◌∷◌, length, refl, sym, ap, ◌∙◌, arith}
use Rattle.std.specs.Prelude.{Ok, Err, Option, Some, None, MatchOption, filter, map}
use Rattle.std.specs.Borrow.{Bor}
use Rattle.std.specs.List.{list_any}
use Rattle.std.proofs.Math.Bool.{or-false}
use Rattle.std.proofs.lemmas.List.{map-append}
use Rattle.std.proofs.lemmas.List.Folds.{list_any-append}
use Rattle.std.proofs.lemmas.Bool.{lt-ltb}
use Rattle.cron_units.specs.Steps.{in_steps}
use Rattle.cron_bits.specs.Words.{has_bit}
use Rattle.cron_units.specs.Units.{TimeUnit, set_of}
use Rattle.cron_units.specs.Units as units
use Rattle.cron_units.proofs.SetLemmas.{set_same}
use Rattle.cron_crontab.specs.Fields.{least}
use Rattle.cron_crontab.specs.Items.{in_items, pieces}
use Rattle.cron_crontab.specs.Crontab.{FieldRead, is_filled, lies_in}
use Rattle.cron_kubernetes.specs.Refusals.{Fault, Reason, refused}
use Rattle.cron_kubernetes.specs.Items.{Item, item_of}
use Rattle.cron_kubernetes.specs.Kubernetes.{field_read, items_from, items_of}
use Rattle.cron_kubernetes.specs.Inner.Reading.{AreFieldKept, AreRead, AreReadBefore, IsAdded, IsDone, IsFieldRead, IsItemFault, IsItemRead, AreFiveRead}
use Rattle.cron_crontab.specs.declared.field.Field.{Field}
use Rattle.cron_crontab.specs.declared.field.Field.TheVariants.{Minute, Hour, DayOfMonth, Month, DayOfWeek}
use Rattle.cron_kubernetes.specs.declared.items.Numbers.{Numbers}

-- ---- a field, item by item

nothing : (text : List ℕ) → length text ≡ 0 → text ≡ []
nothing [] none = refl
nothing (c ∷ cs) none = absurd (omega arith)

pub some_byte : (text : List ℕ) → (length text == 0) ≡ false → 0 < length text
some_byte [] some = absurd cc
some_byte (c ∷ cs) some = omega arith

pub none_added : (f : Field) (text : List ℕ) (kept : Numbers) → length text ≡ 0 → IsAdded f text kept kept
none_added f text kept none = λ done more keeps. record { done = done; is = rw (nothing text none) refl; keeps = keeps }

pub item_refused : (f : Field) (text : List ℕ) (reason : Reason) → 0 < length text → item_of f text ≡ Err reason → IsItemFault f text (refused f text reason)
item_refused f text reason some is = λ done more. rw (lt-ltb 0 (length text) some, is) refl

items_more : (done : List Item) (item : Item) (x : ℕ)
    → in_items (map (λ i. i.numbers) (done ++ item ∷ [])) x ≡ (in_items (map (λ i. i.numbers) done) x || in_steps item.numbers x)
items_more done item x =
    ap (λ items. in_items items x) (map-append (λ (i : Item). i.numbers) done (item ∷ []))
    ∙ list_any-append (λ p. in_steps p x) (map (λ i. i.numbers) done) (item.numbers ∷ [])
    ∙ ap (λ b. in_items (map (λ i. i.numbers) done) x || b) (or-false (in_steps item.numbers x))

pub item_added : (f : Field) (text : List ℕ) (old more new : Numbers) → 0 < length text → IsItemRead f text more → new.bits < 2 ^ 64
    → ((k : ℕ) → has_bit new.bits k ≡ (has_bit old.bits k || has_bit more.bits k)) → new.star ≡ (old.star || more.star) → IsAdded f text old new
item_added f text old more new some read fit bits star = λ done rest keeps. record {
  done = done ++ read.item ∷ [];
  is = rw (lt-ltb 0 (length text) some, read.is) refl;
  keeps = record {
    fit = fit;
    numbers = λ x low. bits (x - least f) ∙ rw (keeps.numbers x low, read.keeps.numbers x low) (sym (items_more done read.item x));
    star = star ∙ rw (keeps.star, read.keeps.star)
        (ap (λ b. list_any (λ (i : Item). i.star) done || b) (sym (or-false read.item.star)) ∙ sym (list_any-append (λ (i : Item). i.star) done (read.item ∷ [])));
  };
}

-- the texts of a field from one on
cut_from : (f : Field) (word rest : List ℕ) (texts : List (List ℕ)) (kept : Numbers) → (before : AreReadBefore f word rest kept) → pieces 44 rest ≡ texts
    → items_of f word ≡ items_from f before.done (filter is_filled texts)
cut_from f word rest texts kept before cut = before.is ∙ ap (λ ts. items_from f before.done (filter is_filled ts)) cut

pub last_read : (f : Field) (word rest item : List ℕ) (old new : Numbers) → AreReadBefore f word rest old → pieces 44 rest ≡ item ∷ [] → IsAdded f item old new
    → AreRead f word new
last_read f word rest item old new before cut added =
    let more = added before.done [] before.keeps in
    record { done = more.done; is = cut_from f word rest (item ∷ []) old before cut ∙ more.is; keeps = more.keeps }

pub next_read : (f : Field) (word rest item others : List ℕ) (old new : Numbers) → AreReadBefore f word rest old → pieces 44 rest ≡ item ∷ pieces 44 others
    → IsAdded f item old new → AreReadBefore f word others new
next_read f word rest item others old new before cut added =
    let more = added before.done (pieces 44 others) before.keeps in
    record { done = more.done; is = cut_from f word rest (item ∷ pieces 44 others) old before cut ∙ more.is; keeps = more.keeps }

pub item_at_fault : (f : Field) (word rest item : List ℕ) (kept : Numbers) (behind : Option (Bor (List ℕ))) (fault : Fault) → AreReadBefore f word rest kept
    → MatchOption behind (pieces 44 rest ≡ item ∷ []) (λ others. pieces 44 rest ≡ item ∷ pieces 44 others.now) → IsItemFault f item fault → items_of f word ≡ Err fault
item_at_fault f word rest item kept None fault before cut is = cut_from f word rest (item ∷ []) kept before cut ∙ is before.done []
item_at_fault f word rest item kept (Some others) fault before cut is =
    cut_from f word rest (item ∷ pieces 44 others.now) kept before cut ∙ is before.done (pieces 44 others.now)

-- ---- fields, one after another

pub field_kept : (f : Field) (ws : List (List ℕ)) (word : List ℕ) (more : List (List ℕ)) (kept : Numbers) → ws ≡ word ∷ more → AreRead f word kept → IsFieldRead f ws kept more
field_kept f ws word more kept cut read = record { read = field_read read.done; is = rw (cut, read.is) refl; keeps = read.keeps }

pub five_kept : (ws wa wb wc wd we : List (List ℕ)) (a b c d e : Numbers) → IsFieldRead Minute ws a wa → IsFieldRead Hour wa b wb → IsFieldRead DayOfMonth wb c wc
    → IsFieldRead Month wc d wd → IsFieldRead DayOfWeek wd e we → we ≡ []
    → AreFiveRead ws (record { minute = a; hour = b; day_of_month = c; month = d; day_of_week = e })
five_kept ws wa wb wc wd we a b c d e ra rb rc rd re none = record {
  five = record { minute = ra.read; hour = rb.read; day_of_month = rc.read; month = rd.read; day_of_week = re.read };
  is = rw (ra.is, rb.is, rc.is, rd.is, re.is, none) refl;
  keep = record { minute = ra.keeps; hour = rb.keeps; day_of_month = rc.keeps; month = rd.keeps; day_of_week = re.keeps };
}

-- ---- a field's numbers as a set

pub set_bits : (u : TimeUnit) (f : Field) (read : FieldRead) (kept : Numbers) → u.least ≡ least f → AreFieldKept f read kept
    → set_of u (λ x. has_bit kept.bits (x - u.least)) ≡ set_of u (lies_in read)
set_bits u f read kept same keeps =
    set_same u (λ x. has_bit kept.bits (x - u.least)) (lies_in read) (λ x low high. rw same (keeps.numbers x (omega arith)))

pub set_weekdays : (read : FieldRead) (kept : Numbers) → AreFieldKept DayOfWeek read kept
    → set_of units.days_of_week (λ x. has_bit kept.bits (x - units.days_of_week.least)) ≡ set_of units.days_of_week (λ day. lies_in read (day - 1))
set_weekdays read kept keeps = set_same units.days_of_week (λ x. has_bit kept.bits (x - units.days_of_week.least)) (λ day. lies_in read (day - 1)) each
  where
    each : (x : ℕ) → 1 ≤ x → x ≤ 7 → has_bit kept.bits (x - 1) ≡ lies_in read (x - 1)
    each x low high =
        let here : (x - 1) - 0 ≡ x - 1 = omega arith in
        rw here at (keeps.numbers (x - 1) (omega arith))
