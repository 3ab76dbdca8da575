-- The texts of fields one after another.
use Rattle.std.proofs.Common.{◌≡◌, ◌==◌, ◌+◌, ℕ, Bool, true, false, List, [], ◌∷◌, ◌++◌, length, map, Result, Ok, Err, OnOk, refl, sym, ap, ◌∙◌, append_assoc, arith}
use Rattle.std.specs.Str.{bytes_eq}
use Rattle.cron_units.specs.Items.{Item, name}
use Rattle.cron_units.specs.Units.{TimeUnit, FieldSet, whole}
use Rattle.cron_units.specs.Units as units
use Rattle.cron_canonical.specs.Short.{before_runs, runs_of, run_item, number_items, short_item, items_text, field_text}

pub if_ok : {A E : Type 0} (r : Result A E) (P Q : Type 0) → (P → Q) → OnOk r P → OnOk r Q
if_ok (Ok x) P Q f p = f p
if_ok (Err e) P Q f p = tt

-- a field and a space, and then the rest
pub field_on : (text next last field rest : List ℕ) → next ≡ text ++ (field ++ 32 ∷ []) → last ≡ next ++ rest → last ≡ text ++ (field ++ 32 ∷ rest)
field_on text next last field rest e f =
    f ∙ (ap (λ (t : List ℕ). t ++ rest) e ∙ (append_assoc text (field ++ 32 ∷ []) rest
    ∙ ap (λ (t : List ℕ). text ++ t) (append_assoc field (32 ∷ []) rest)))

-- numbers, what comes after them, and a space
pub days_on : (text next last numbers mark field : List ℕ) → next ≡ text ++ numbers → field ≡ numbers ++ mark → last ≡ next ++ (mark ++ 32 ∷ [])
    → last ≡ text ++ (field ++ 32 ∷ [])
days_on text next last numbers mark field e f h =
    h ∙ (ap (λ (t : List ℕ). t ++ (mark ++ 32 ∷ [])) e ∙ (append_assoc text numbers (mark ++ 32 ∷ [])
    ∙ (ap (λ (t : List ℕ). text ++ t) (sym (append_assoc numbers mark (32 ∷ []))) ∙ ap (λ (t : List ℕ). text ++ (t ++ 32 ∷ [])) (sym f))))

no_numbers : number_items units.days_of_month [] ≡ []
unfolding whole runs_of
no_numbers = refl

-- the last day of the month alone
pub days_alone : (s : FieldSet) → s.last_day ≡ true → s.ordinals ≡ []
    → field_text units.days_of_month s ≡ items_text (number_items units.days_of_month s.ordinals) ++ 76 ∷ []
days_alone s marked none = rw (marked, none, no_numbers) refl

last_item : (i : Item) (is : List Item) → items_text ((i ∷ is) ++ name (76 ∷ []) ∷ []) ≡ items_text (i ∷ is) ++ 44 ∷ 76 ∷ []
last_item i [] = refl
last_item i (j ∷ is) =
    ap (λ (t : List ℕ). short_item i ++ 44 ∷ t) (last_item j is) ∙ sym (append_assoc (short_item i) (44 ∷ items_text (j ∷ is)) (44 ∷ 76 ∷ []))

last_of : (is : List Item) → (is ≡ [] → ⊥) → items_text (is ++ name (76 ∷ []) ∷ []) ≡ items_text is ++ 44 ∷ 76 ∷ []
last_of [] n = absurd (n refl)
last_of (i ∷ is) n = last_item i is

runs_by : (n : ℕ) (r : ℕ × ℕ) (rs : List (ℕ × ℕ)) (joins : Bool) → (n + 1 == r.0) ≡ joins → map run_item (before_runs n (r ∷ rs)) ≡ [] → ⊥
runs_by n r rs true e h = let t = rw e at h in absurd (cc)
runs_by n r rs false e h = let t = rw e at h in absurd (cc)

some_runs : (n : ℕ) (rs : List (ℕ × ℕ)) → map run_item (before_runs n rs) ≡ [] → ⊥
some_runs n [] h = absurd (cc)
some_runs n (r ∷ rs) h = runs_by n r rs (n + 1 == r.0) refl h

numbers_by : (u : TimeUnit) (n : ℕ) (ns : List ℕ) (all : Bool) → bytes_eq (n ∷ ns) (whole u) ≡ all → number_items u (n ∷ ns) ≡ [] → ⊥
unfolding runs_of
numbers_by u n ns true e h = let t = rw e at h in absurd (cc)
numbers_by u n ns false e h = some_runs n (runs_of ns) (rw e at h)

pub some_items : (u : TimeUnit) (ns : List ℕ) → (length ns ≡ 0 → ⊥) → number_items u ns ≡ [] → ⊥
some_items u [] some h = some refl
some_items u (n ∷ ns) some h = numbers_by u n ns (bytes_eq (n ∷ ns) (whole u)) refl h

-- the last day of the month behind numbers
pub days_behind : (s : FieldSet) → s.last_day ≡ true → (length s.ordinals ≡ 0 → ⊥)
    → field_text units.days_of_month s ≡ items_text (number_items units.days_of_month s.ordinals) ++ 44 ∷ 76 ∷ []
days_behind s marked some = rw marked (last_of (number_items units.days_of_month s.ordinals) (some_items units.days_of_month s.ordinals some))

pub none_counted : (xs : List ℕ) (count : ℕ) → count ≡ length xs → count ≡ 0 → xs ≡ []
none_counted [] count e z = refl
none_counted (x ∷ xs) count e z = absurd (omega arith)
