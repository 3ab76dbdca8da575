-- Whether an entry is due again, by its id.
use Rattle.std.proofs.Common.{◌≡◌, ℕ, zero, suc, ◌+◌, ◌<◌, ◌≤◌, ℤ, Bool, true, false, ◌&&◌, ◌||◌, eqb, List, [], ◌∷◌, Some, refl, ap, ◌∙◌, arith}
use Rattle.std.specs.Prelude.{◌==◌, ◌+ℤ◌, ◌-ℤ◌, ◌*ℤ◌, pos, int_le, slice_get}
use Rattle.std.proofs.lemmas.Int.{ints}
use Rattle.std.proofs.lemmas.Bool.{eq-eqb, eqb-true}
use Rattle.cron_agenda.specs.declared.entry.Entry.{Entry}
use Rattle.cron_agenda.specs.Entries.{HaveIds, IsEntryOf, has, is_by}
use Rattle.cron_agenda_scheduler.specs.Late.{has_due}

neither : (a b c d : Bool) → (a || b) ≡ false → (b ≡ false → d ≡ false) → ((a && c) || d) ≡ false
neither true b c d h on = absurd (cc)
neither false b c d h on = on h

passed : (a c d : Bool) → a ≡ false → ((a && c) || d) ≡ d
passed true c d h = absurd (cc)
passed false c d h = refl

found : (a c d : Bool) → a ≡ true → d ≡ false → ((a && c) || d) ≡ c
found false c d h g = absurd (cc)
found true true d h g = refl
found true false d h g = g

-- the test tells numbers apart that differ
pub unlike : (a b : ℕ) → (a ≡ b → ⊥) → (a == b) ≡ false
unlike a b apart = by_test (eqb a b) refl
  where
    by_test : (t : Bool) → eqb a b ≡ t → t ≡ false
    by_test true is = absurd (apart (eqb-true a b is))
    by_test false is = refl

pub not_due : {T : Type 0} (t : ℤ) (id : ℕ) (es : List (Entry T)) → has id es ≡ false → has_due t id es ≡ false
not_due t id [] h = refl
not_due t id (e ∷ es) h = neither (e.id == id) (has id es) (is_by t e) (has_due t id es) h (not_due t id es)

above : {T : Type 0} (t : ℤ) (id : ℕ) (es : List (Entry T)) (low high : ℕ) → id < low → HaveIds low es high → has_due t id es ≡ false
above t id [] low high less ids = refl
above t id (e ∷ es) low high less ids =
    let first = ids.0 in
    passed (e.id == id) (is_by t e) (has_due t id es) (unlike e.id id (λ same. omega arith)) ∙ above t id es (e.id + 1) high (omega arith) ids.1

no_less : {T : Type 0} (es : List (Entry T)) (low high i : ℕ) (e : Entry T) → HaveIds low es high → slice_get es i ≡ Some e → low ≤ e.id
no_less [] low high zero e ids here = cc
no_less [] low high (suc i) e ids here = cc
no_less (x ∷ es) low high zero e ids here = let same : x ≡ e = cc in let first = ids.0 in let id = ap (λ (v : Entry _). v.id) same in omega arith
no_less (x ∷ es) low high (suc i) e ids here = let rest = no_less es (x.id + 1) high i e ids.1 here in let first = ids.0 in omega arith

due_there : {T : Type 0} (t : ℤ) (id : ℕ) (es : List (Entry T)) (low high i : ℕ) (e : Entry T) → HaveIds low es high → slice_get es i ≡ Some e → e.id ≡ id
    → has_due t id es ≡ is_by t e
due_there t id [] low high zero e ids here same = cc
due_there t id [] low high (suc i) e ids here same = cc
due_there t id (x ∷ es) low high zero e ids here same =
    let is : x ≡ e = cc in
    let id_is : x.id ≡ id = ap (λ (v : Entry _). v.id) is ∙ same in
    found (x.id == id) (is_by t x) (has_due t id es) (eq-eqb x.id id id_is) (above t id es (x.id + 1) high (omega arith) ids.1) ∙ ap (is_by t) is
due_there t id (x ∷ es) low high (suc i) e ids here same =
    let less = no_less es (x.id + 1) high i e ids.1 here in
    passed (x.id == id) (is_by t x) (has_due t id es) (unlike x.id id (λ eq. omega arith)) ∙ due_there t id es (x.id + 1) high i e ids.1 here same

-- where the ids ascend, the entry with an id is the only one
pub due_again : {T : Type 0} (t : ℤ) (id : ℕ) (es : List (Entry T)) (high : ℕ) (e : Entry T) → HaveIds 0 es high → IsEntryOf id es (Some e)
    → has_due t id es ≡ is_by t e
due_again t id es high e ids is = due_there t id es 0 high is.1.0 e ids is.1.1 is.0

-- how old a fire is
pub age_is : (n f i : ℤ) (seconds : ℕ) → f ≡ i *ℤ pos 1_000_000_000
    → int_le (n -ℤ f) (pos seconds *ℤ pos 1_000_000_000) ≡ int_le n ((i +ℤ pos seconds) *ℤ pos 1_000_000_000)
age_is n f i seconds e = grind (arith, ints)
