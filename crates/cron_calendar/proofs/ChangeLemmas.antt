-- Changes one after another.
use Rattle.std.proofs.Common.{◌≡◌, ◌≢◌, ℕ, ◌<◌, ◌≤◌, true, false, ◌&&◌, cond, List, [], ◌∷◌, ◌++◌, length, inl, inr, refl, sym, ap, ◌∙◌, subst, nat_lt, arith}
use Rattle.std.proofs.lemmas.Bool.{cases_lt, le-leb, le-ltb, lt-leb, lt-ltb}
use Rattle.jiff_tz.specs.declared.timezone.TimeZone.{TimeZone}
use Rattle.cron_moments.specs.Readings.{readings}
use Rattle.cron_calendar.specs.declared.changes.Change.{Change}
use Rattle.cron_calendar.specs.Changes.{AreChanges, AreShown, IsChange, has_second, times_told}

-- none of the changes has it
abbrev pub none_has : List Change → ℕ → Type 0
none_has [] c = Unit {0}
none_has (change ∷ changes) c = (has_second c change ≡ false) × none_has changes c

pub told-behind : (xs ys : List Change) (c : ℕ) → none_has xs c → times_told (xs ++ ys) c ≡ times_told ys c
told-behind [] ys c none = refl
told-behind (x ∷ xs) ys c none = ap (λ b. cond b x.times (times_told (xs ++ ys) c)) none.0 ∙ told-behind xs ys c none.1

-- a change that doesn't have it tells nothing of it
pub told-before : (xs : List Change) (x : Change) (c : ℕ) → has_second c x ≡ false → times_told (xs ++ x ∷ []) c ≡ times_told xs c
told-before [] x c out = rw out refl
told-before (y ∷ xs) x c out = ap (λ n. cond (has_second c y) y.times n) (told-before xs x c out)

none-more : (xs : List Change) (x : Change) (c : ℕ) → none_has xs c → has_second c x ≡ false → none_has (xs ++ x ∷ []) c
none-more [] x c none out = (out, tt)
none-more (y ∷ xs) x c none out = (none.0, none-more xs x c none.1 out)

-- they tell what a zone does from a civil second up to another, and nothing of those behind
pub record AreToldTo (z : TimeZone) (first at : ℕ) (xs : List Change) : Type 0 where
  pub told : (c : ℕ) → first ≤ c → c < at → length (readings z c) ≡ times_told xs c
  pub behind : (c : ℕ) → at ≤ c → none_has xs c

pub told-none : (z : TimeZone) (first : ℕ) (xs : List Change) → xs ≡ [] → AreToldTo z first first xs
told-none z first xs e = record { told = λ c low high. absurd (omega arith); behind = λ c low. rw e tt }

before : (x : Change) (c : ℕ) → c < x.first → has_second c x ≡ false
before x c less = ap (λ b. b && nat_lt c x.end) (lt-leb x.first c less)

past : (x : Change) (c : ℕ) → x.end ≤ c → has_second c x ≡ false
past x c high = elim (cases_lt c x.first) [
  | inl less ↦ before x c less
  | inr from ↦ rw (le-leb x.first c from, le-ltb c x.end high) refl
]

inside : (x : Change) (c : ℕ) → x.first ≤ c → c < x.end → has_second c x ≡ true
inside x c from less = rw (le-leb x.first c from, lt-ltb c x.end less) refl

told_none : (xs : List Change) (c : ℕ) → none_has xs c → times_told xs c ≡ 1
told_none [] c none = refl
told_none (x ∷ xs) c none = ap (λ b. cond b x.times (times_told xs c)) none.0 ∙ told_none xs c none.1

module _ (z : TimeZone) (first : ℕ) (xs : List Change) (x : Change) (here : AreShown z x.times x.first x.end) (told : AreToldTo z first x.first xs)
    (some : x.first ≤ x.end) where
  -- one that isn't shown once is told ..
  pub told-more : (ys : List Change) → ys ≡ xs ++ x ∷ [] → AreToldTo z first x.end ys
  told-more ys e = rw e (record {
    told = λ c low high. elim (cases_lt c x.first) [
      | inl less ↦ told.told c low less ∙ sym (told-before xs x c (before x c less))
      | inr past_it ↦
          here c past_it high
          ∙ sym (told-behind xs (x ∷ []) c (told.behind c past_it) ∙ ap (λ b. cond b x.times 1) (inside x c past_it high))
    ];
    behind = λ c low. none-more xs x c (told.behind c (omega arith)) (past x c low);
  })

  -- .. and of others nothing is
  pub told-kept : (ys : List Change) → ys ≡ xs → x.times ≡ 1 → AreToldTo z first x.end ys
  told-kept ys e single = rw e (record {
    told = λ c low high. elim (cases_lt c x.first) [
      | inl less ↦ told.told c low less
      | inr past_it ↦ here c past_it high ∙ (single ∙ sym (told_none xs c (told.behind c past_it)))
    ];
    behind = λ c low. told.behind c (omega arith);
  })

-- ---- all changes up to a civil second

-- those of an end that begin before another civil second
abbrev pub AreChangesTo : TimeZone → ℕ → ℕ → ℕ → List Change → Type 0
AreChangesTo z end to at [] = (at ≤ to) × AreShown z 1 at to
AreChangesTo z end to at (x ∷ xs) = (at ≤ x.first) × AreShown z 1 at x.first × IsChange z end x × AreChangesTo z end to x.end xs

pub changes-more : (z : TimeZone) (end at : ℕ) (xs : List Change) (x : Change) → AreChangesTo z end x.first at xs → IsChange z end x
    → AreChangesTo z end x.end at (xs ++ x ∷ [])
changes-more z end at [] x are is = (are.0, are.1, is, (omega arith, λ c low high. absurd (omega arith)))
changes-more z end at (y ∷ xs) x are is = (are.0, are.1, are.2, changes-more z end y.end xs x are.3 is)

pub changes-kept : (z : TimeZone) (end to more at : ℕ) (xs : List Change) → to ≤ more → AreChangesTo z end to at xs → AreShown z 1 to more
    → AreChangesTo z end more at xs
changes-kept z end to more at [] on are once = (
  omega (arith, are.0),
  λ c low high. elim (cases_lt c to) [
    | inl less ↦ are.1 c low less
    | inr past_it ↦ once c past_it high
  ],
)
changes-kept z end to more at (x ∷ xs) on are once = (are.0, are.1, are.2, changes-kept z end to more x.end xs on are.3 once)

pub changes-all : (z : TimeZone) (end to at : ℕ) (xs : List Change) → end ≤ to → AreChangesTo z end to at xs → AreChanges z end at xs
changes-all z end to at [] past_it are = λ c low high. are.1 c low (omega arith)
changes-all z end to at (x ∷ xs) past_it are = (are.0, are.1, are.2, changes-all z end to x.end xs past_it are.3)

-- what is known up to a civil second
abbrev pub Known : TimeZone → ℕ → ℕ → ℕ → List Change → Type 0
Known z end first at xs = AreToldTo z first at xs × AreChangesTo z end at first xs

-- a change more
pub known-more : (z : TimeZone) (end first at : ℕ) (xs : List Change) (x : Change) → x.first ≡ at → at < x.end → x.end ≤ end → x.times ≢ 1
    → AreShown z x.times at x.end → (x.end < end → length (readings z x.end) ≢ x.times) → Known z end first at xs
    → (ys : List Change) → ys ≡ xs ++ x ∷ [] → Known z end first x.end ys
known-more z end first at xs x e some within other shown whole known ys is =
    let here : AreShown z x.times x.first x.end = subst (λ (k : ℕ). AreShown z x.times k x.end) (sym e) shown in
    let before : Known z end first x.first xs = subst (λ (k : ℕ). Known z end first k xs) (sym e) known in
    let change : IsChange z end x = record { some = omega (arith, e, some); within = within; not_once = other; shown = here; whole = whole } in (
      told-more z first xs x here before.0 (omega (arith, e, some)) ys is,
      subst (AreChangesTo z end x.end first) (sym is) (changes-more z end first xs x before.1 change),
    )

-- civil seconds that are shown once
pub known-kept : (z : TimeZone) (end first at : ℕ) (xs : List Change) (x : Change) → x.first ≡ at → at < x.end → x.times ≡ 1 → AreShown z x.times at x.end
    → Known z end first at xs → Known z end first x.end xs
known-kept z end first at xs x e some single shown known =
    let here : AreShown z x.times x.first x.end = subst (λ (k : ℕ). AreShown z x.times k x.end) (sym e) shown in
    let before : Known z end first x.first xs = subst (λ (k : ℕ). Known z end first k xs) (sym e) known in (
      told-kept z first xs x here before.0 (omega (arith, e, some)) xs refl single,
      changes-kept z end x.first x.end first xs (omega (arith, e, some)) before.1 (subst (λ (n : ℕ). AreShown z n x.first x.end) single here),
    )
