-- Lists of fires that are cut at an instant.
use Rattle.std.proofs.Common.{◌≡◌, ℤ, pos, ◌*ℤ◌, ◌≤ℤ◌, Bool, true, false, not, cond, int_le, int_lt, List, [], ◌∷◌, ◌++◌, map, refl, ap, sym, ◌∙◌, arith}
use Rattle.std.specs.Prelude.{filter}
use Rattle.std.proofs.lemmas.Int.{by_lt_z}
use Rattle.std.proofs.lemmas.List.{map-append}
use Rattle.jiff_core.proofs.SignedLemmas.{signed_arith}
use Rattle.jiff_tz.specs.declared.timezone.TimeZone.{TimeZone}
use Rattle.cron_clocks.proofs.Windows.{le_no, le_yes, lt_yes}
use Rattle.cron_moments.specs.Readings as moments
use Rattle.cron_time.proofs.ListLemmas.{Among, among-first, among-rest, filter-alike, filter-all, filter-none}
use Rattle.cron_instants.specs.Fires as shown
use Rattle.cron_instants.specs.Order.{is_earlier}
use Rattle.cron_instants.proofs.FireLemmas.{fires-in_order}
use Rattle.cron_seconds.proofs.IntLemmas.{int_lt-true}
use Rattle.cron_dues.specs.Due as due_fires
use Rattle.cron_dues.specs.Due.{clock_of}
use Rattle.cron_dues.specs.Dues.{dues}
use Rattle.cron_dues.specs.Clock.Dues.{is_past}
use Rattle.cron_dues.proofs.RuleLemmas.{dues-in_order}
use Rattle.cron_seconds.specs.Rules.{AreInOrder, Rises, all_after, is_after}
use Rattle.cron_seconds.specs.Rules as rules
use Rattle.cron_agenda.specs.declared.fire.EntryFire.{EntryFire}
use Rattle.cron_agenda.specs.declared.fire.EntryFire.TheVariants.{AsShown, Once}
use Rattle.cron_fires.specs.declared.changes.ClockChanges.TheVariants as rule
use Rattle.cron_tab_running.specs.Laws.{NotesLoseNothing, is_by}

module _ {A : Type 0} (p q r : A → Bool) (within : (x : A) → q x ≡ true → p x ≡ true) (other : (x : A) → r x ≡ not (q x)) where
  -- what passes the later test is followed by such alone
  abbrev Stays : List A → Type 0
  Stays [] = Unit {0}
  Stays (x ∷ l) = (q x ≡ true → (y : A) → Among l y → q y ≡ true) × Stays l

  cut : (l : List A) → Stays l → filter p l ≡ filter r (filter p l) ++ filter q l
  cut [] stays = refl
  cut (x ∷ l) stays = by_later (q x) refl (cut l stays.1)
    where
      by_earlier : (b : Bool) → p x ≡ b → q x ≡ false → filter p l ≡ filter r (filter p l) ++ filter q l
          → cond (p x) (x ∷ filter p l) (filter p l) ≡ filter r (cond (p x) (x ∷ filter p l) (filter p l)) ++ cond (q x) (x ∷ filter q l) (filter q l)
      by_earlier true is later rest = let by : r x ≡ true = other x ∙ ap not later in rw (is, later, by) (ap (λ m. x ∷ m) rest)
      by_earlier false is later rest = rw (is, later) rest

      by_later : (b : Bool) → q x ≡ b → filter p l ≡ filter r (filter p l) ++ filter q l
          → cond (p x) (x ∷ filter p l) (filter p l) ≡ filter r (cond (p x) (x ∷ filter p l) (filter p l)) ++ cond (q x) (x ∷ filter q l) (filter q l)
      by_later true is rest =
          let all_later : filter q l ≡ l = filter-all q l (stays.0 is) in
          let all : filter p l ≡ l = filter-all p l (λ y h. within y (stays.0 is y h)) in
          let none : filter r l ≡ [] = filter-none r l (λ y h. other y ∙ ap not (stays.0 is y h)) in
          let here : p x ≡ true = within x is in
          let late : r x ≡ false = other x ∙ ap not is in
          rw (here, is, late, all_later, all, none) refl
      by_later false is rest = by_earlier (p x) refl is rest

filter-map : {A B : Type 0} (g : B → Bool) (f : A → B) (l : List A) → filter g (map f l) ≡ map f (filter (λ x. g (f x)) l)
filter-map g f [] = refl
filter-map g f (x ∷ l) = by_test (g (f x)) (filter-map g f l)
  where
    by_test : (b : Bool) → filter g (map f l) ≡ map f (filter (λ y. g (f y)) l)
        → cond b (f x ∷ filter g (map f l)) (filter g (map f l)) ≡ map f (cond b (x ∷ filter (λ y. g (f y)) l) (filter (λ y. g (f y)) l))
    by_test true rest = ap (λ m. f x ∷ m) rest
    by_test false rest = rest

not_after : (i t : ℤ) → int_le i t ≡ not (int_lt t i)
not_after i t =
    by_lt_z t i
    (λ less. le_no i t less ∙ sym (ap not (lt_yes t i less)))
    (λ le. by_test (int_lt t i) refl le)
  where
    by_test : (b : Bool) → int_lt t i ≡ b → i ≤ℤ t → int_le i t ≡ not b
    by_test true is le = let less = int_lt-true t i is in absurd (omega (arith, signed_arith))
    by_test false is le = le_yes i t le

-- the same of fires in an entry's own form
mapped : {A : Type 0} (f : A → EntryFire) (noted : ℤ) (p q r : A → Bool) (l : List A) → ((x : A) → is_by noted (f x) ≡ r x)
    → filter p l ≡ filter r (filter p l) ++ filter q l
    → map f (filter p l) ≡ filter (is_by noted) (map f (filter p l)) ++ map f (filter q l)
mapped f noted p q r l same e =
    ap (map f) e ∙ map-append f (filter r (filter p l)) (filter q l)
    ∙ ap (λ m. map f m ++ map f (filter q l)) (sym (filter-alike (λ x. is_by noted (f x)) r (filter p l) (λ x h. same x)))
    ∙ ap (λ m. m ++ map f (filter q l)) (sym (filter-map (is_by noted) f (filter p l)))

-- ---- in the order of a rule

module _ {A : Type 0} (at : A → ℤ) (is_past : A → A → Bool) (s t : ℤ) (le : s ≤ℤ t) where
  later_after : (x : A) → is_after at t x ≡ true → is_after at s x ≡ true
  later_after x h =
      let less = int_lt-true t (at x *ℤ pos 1_000_000_000) h in lt_yes s (at x *ℤ pos 1_000_000_000) (omega (arith, signed_arith))

  others_by : (x : A) → rules.is_by at t x ≡ not (is_after at t x)
  others_by x = not_after (at x *ℤ pos 1_000_000_000) t

  stays : (l : List A) → AreInOrder at is_past l → Stays (is_after at s) (is_after at t) (rules.is_by at t) later_after others_by l
  stays [] are = tt
  stays (x ∷ l) are = (
    λ is y h.
        let less = int_lt-true t (at x *ℤ pos 1_000_000_000) is in
        let le = are.keep_up x y (among-first x l) (among-rest x y l h) (are.rise.0 y h) in
        lt_yes t (at y *ℤ pos 1_000_000_000) (omega (arith, signed_arith)),
    stays l (record { rise = are.rise.1; keep_up = λ a b one other. are.keep_up a b (among-rest x a l one) (among-rest x b l other) }),
  )

  split : (f : A → EntryFire) (l : List A) → AreInOrder at is_past l → ((x : A) → is_by t (f x) ≡ rules.is_by at t x)
      → map f (all_after at l s) ≡ filter (is_by t) (map f (all_after at l s)) ++ map f (all_after at l t)
  split f l are same =
      mapped f t (is_after at s) (is_after at t) (rules.is_by at t) l same
      (cut (is_after at s) (is_after at t) (rules.is_by at t) later_after others_by l (stays l are))

pub nothing_lost : NotesLoseNothing
nothing_lost s z rule.AsShown start noted le = split moments.instant is_earlier start noted le AsShown (shown.fires s z) (fires-in_order s z) (λ x. refl)
nothing_lost s z rule.Once start noted le =
    split due_fires.instant is_past start noted le Once (dues s z) (dues-in_order s (clock_of z)) (λ d. refl)
