-- Months past one another, of which those between are bare; schedules of which 29 February alone can match.
use Rattle.std.proofs.Common.{◌≡◌, ℕ, List, ◌+◌, ◌-◌, ◌/◌, ◌%◌, ◌<◌, ◌≤◌, ◌&&◌, true, false, ℤ, pos, Option, Some, None, sym, subst, ◌∙◌, inl, inr, arith}
use Rattle.std.proofs.lemmas.Bool.{both_ways, cases_Bool, cases_eq, ne_eqb, lt-ltb, and_left, and_parts, and_right}
use Rattle.std.proofs.lemmas.Bool.Decides.{nat_tests}
use Rattle.std.specs.Prelude.{nat_le, nat_lt, nat_eq, not}
use Rattle.jiff_core.proofs.SignedLemmas.{signed_arith}
use Rattle.cron_bits.specs.Words.{has_bit}
use Rattle.cron_bits.proofs.WordLemmas.{bit_none}
use Rattle.cron_units.specs.declared.way.Way.{Way}
use Rattle.cron_units.specs.declared.way.Way.TheVariants.{Ahead, Back}
use Rattle.cron_units.specs.Nearest.{LiesFrom, Precedes, IsNearest}
use Rattle.cron_units.specs.Sets.{Sets}
use Rattle.cron_units.specs.Units.{contains, days_of_month, months, set_of, whole}
use Rattle.cron_moments.specs.Calendar.{length_of, month_of, year_of}
use Rattle.cron_time.specs.Matches.{has_day}
use Rattle.cron_time.specs.Search.Inner.Blocks.{Reaches, ReachesIfAny}
use Rattle.cron_time.specs.Search.Inner.Filled.{within}
use Rattle.cron_time.specs.Search.Inner.LeapDays.{WantsLeapDays}
use Rattle.cron_time.specs.Search.Inner.MonthDays.{IsBare, LeadsOn, has_matching, matches_ranked, matches_weekday}
use Rattle.cron_time.specs.Search.Inner.Numbers.{beyond, beyond_block, matches_day, matches_month}
use Rattle.cron_time.proofs.Searches.BlockLemmas.{BlockFails}
use Rattle.cron_time.proofs.Searches.DayLemmas.{by_number_alone}
use Rattle.cron_time.proofs.Searches.MonthDayLemmas.{matching_fits}
use Rattle.cron_time.proofs.Searches.WayLemmas.{side, before, same, after, lies_past, lies_or_before}

-- ---- months past one another

pub unwanted_bare : (s : Sets) (month : ℕ) → matches_month s month ≡ false → IsBare s month
unwanted_bare s month h day = and_left (matches_month s month) (has_matching s month day) h

pub bare_fails : (s : Sets) (n : ℕ) → IsBare s (n / 100) → matches_ranked s n ≡ false
bare_fails s n bare = bare (n % 100)

past_month : (way : Way) (month n : ℕ) → LiesFrom way (beyond_block way 100 month) n → LiesFrom way (beyond way month) (n / 100)
past_month Ahead month n h = omega (arith, signed_arith)
past_month Back month n h = omega (arith, signed_arith)

-- a search that has come to a month goes on where it leads
pub leads_reach : (way : Way) (s : Sets) (start first : ℤ) (month : ℕ) (next : Option ℕ)
    → Reaches way 100 (matches_month s) (matches_ranked s) start first month → BlockFails way 100 (matches_ranked s) start month → LeadsOn way s month next
    → ReachesIfAny way 100 (matches_month s) (matches_ranked s) start first next
leads_reach way s start first month None reached here h = λ n lies.
    elim (side way month (n / 100)) [
      | before lt ↦ reached.failed n lies lt
      | same e ↦ here n lies e
      | after past gt ↦ bare_fails s n (h (n / 100) past)
    ]
leads_reach way s start first month (Some next) reached here h = record {
  block = h.wanted;
  lies = lies_past way first month next reached.lies h.lies;
  failed = λ n lies early. elim (side way month (n / 100)) [
    | before lt ↦ reached.failed n lies lt
    | same e ↦ here n lies e
    | after past gt ↦ bare_fails s n (h.between (n / 100) past early)
  ];
}

-- past a month a search comes to where it leads
pub leads_start : (way : Way) (s : Sets) (month : ℕ) (next : Option ℕ) → LeadsOn way s month next
    → ReachesIfAny way 100 (matches_month s) (matches_ranked s) (beyond_block way 100 month) (beyond way month) next
leads_start way s month None h = λ n lies. bare_fails s n (h (n / 100) (past_month way month n lies))
leads_start way s month (Some next) h = record {
  block = h.wanted;
  lies = h.lies;
  failed = λ n lies early. bare_fails s n (h.between (n / 100) (past_month way month n lies) early);
}

-- ---- 29 February alone

short_february : (k : ℕ) → month_of k ≡ 2 → (k % 48 ≡ 1 → ⊥) → length_of k ≤ 28
short_february k two common =
    let uncommon : year_of k % 4 ≡ 0 → ⊥ = λ e. common (omega (arith, two, e)) in
    rw two (grind (arith, nat_tests, uncommon))

none_there : (s : Sets) (k day : ℕ) → WantsLeapDays s → length_of k ≤ 28 → has_matching s k day ≡ true → ⊥
none_there s k day wants short h =
    let fits = matching_fits s k day h in
    let parts = and_parts (nat_le 1 day) (matches_day s k day && matches_weekday s k day) h in
    let in_month = (and_parts (matches_day s k day) (matches_weekday s k day) parts.1).0 in
    let has = (and_parts (has_day s.days_of_month (length_of k) day) (nat_le day (length_of k)) in_month).0 in
    both_ways (contains s.days_of_month.ordinals day) (wants.days day (omega (arith, fits, short)))
    (sym (by_number_alone s.days_of_month (length_of k) day wants.unmarked) ∙ has)

-- a month that is no February of a year that 4 divides
pub common_bare : (s : Sets) (k : ℕ) → WantsLeapDays s → (k % 48 ≡ 1 → ⊥) → IsBare s k
common_bare s k wants common day =
    elim (cases_Bool (matches_month s k)) [
      | inr out ↦ and_left (matches_month s k) (has_matching s k day) out
      | inl inside ↦
          let two = wants.months (month_of k) (and_parts (contains s.years (year_of k)) (contains s.months (month_of k)) inside).1 in
          and_right (matches_month s k) (has_matching s k day) (elim (cases_Bool (has_matching s k day)) [
            | inr out ↦ out
            | inl h ↦ absurd (none_there s k day wants (short_february k two common) h)
          ])
    ]

-- the nearest wanted month from a February of such a year on
pub leap_leads : (way : Way) (s : Sets) (month from : ℕ) (next : Option ℕ) → WantsLeapDays s → LiesFrom way (beyond way month) from
    → ((k : ℕ) → LiesFrom way (beyond way month) k → Precedes way k from → k % 48 ≡ 1 → ⊥)
    → IsNearest way (matches_month s) (pos from) next → LeadsOn way s month next
leap_leads way s month from None wants past between h = λ k lies.
    elim (lies_or_before way from k) [
      | inl there ↦ unwanted_bare s k (h k there)
      | inr early ↦ common_bare s k wants (between k lies early)
    ]
leap_leads way s month from (Some n) wants past between h = record {
  wanted = h.passes;
  lies = farther way month from n past h.lies;
  between = λ k lies before_n. elim (lies_or_before way from k) [
    | inl there ↦ unwanted_bare s k (h.nearest k there before_n)
    | inr early ↦ common_bare s k wants (between k lies early)
  ];
}
  where
    farther : (way : Way) (month from n : ℕ) → LiesFrom way (beyond way month) from → LiesFrom way (pos from) n → LiesFrom way (beyond way month) n
    farther Ahead month from n a b = omega (arith, signed_arith)
    farther Back month from n a b = omega (arith, signed_arith)

-- ---- by bits

-- the bit of a member that isn't the least but one
other_bit : (xs : List ℕ) (word others k : ℕ) → ((j : ℕ) → has_bit word j ≡ contains xs (1 + j))
    → ((j : ℕ) → has_bit others j ≡ (not (nat_eq j 1) && has_bit word j)) → others ≡ 0 → contains xs (1 + k) ≡ true → k ≡ 1
other_bit xs word others k bits cut none h =
    elim (cases_eq k 1) [
      | inl e ↦ e
      | inr d ↦
          let P : ℕ → Type 0 = λ w. has_bit w k ≡ true in
          let set : has_bit others k ≡ true = cut k ∙ rw (ne_eqb k 1 d, bits k) h in
          absurd (both_ways (has_bit 0 k) (bit_none k) (subst P none set))
    ]

pub february_alone : (xs : List ℕ) (word others m : ℕ) → set_of months (λ x. has_bit word (x - 1)) ≡ xs → ((j : ℕ) → has_bit word j ≡ contains xs (1 + j))
    → ((j : ℕ) → has_bit others j ≡ (not (nat_eq j 1) && has_bit word j)) → others ≡ 0 → contains xs m ≡ true → m ≡ 2
unfolding whole
february_alone xs word others m set bits cut none h =
    let P : List ℕ → Type 0 = λ ys. contains ys m ≡ true in
    let inside = within (λ x. has_bit word (x - 1)) 1 12 m (subst P (sym set) h) in
    let is : 1 + (m - 1) ≡ m = omega (arith, inside) in
    let Q : ℕ → Type 0 = λ n. contains xs n ≡ true in
    let e = other_bit xs word others (m - 1) bits cut none (subst Q (sym is) h) in
    omega (arith, e, inside)

pub late_alone : (xs : List ℕ) (word early d : ℕ) → set_of days_of_month (λ x. has_bit word (x - 1)) ≡ xs → ((j : ℕ) → has_bit word j ≡ contains xs (1 + j))
    → ((j : ℕ) → has_bit early j ≡ (nat_lt j 28 && has_bit word j)) → early ≡ 0 → d < 29 → contains xs d ≡ false
unfolding whole
late_alone xs word early d set bits cut none less =
    elim (cases_Bool (contains xs d)) [
      | inr out ↦ out
      | inl h ↦
          let P : List ℕ → Type 0 = λ ys. contains ys d ≡ true in
          let inside = within (λ x. has_bit word (x - 1)) 1 31 d (subst P (sym set) h) in
          let is : 1 + (d - 1) ≡ d = omega (arith, inside) in
          let Q : ℕ → Type 0 = λ n. contains xs n ≡ true in
          let R : ℕ → Type 0 = λ w. has_bit w (d - 1) ≡ true in
          let bit : has_bit word (d - 1) ≡ true = bits (d - 1) ∙ subst Q (sym is) h in
          let set_bit : has_bit early (d - 1) ≡ true = cut (d - 1) ∙ rw (lt-ltb (d - 1) 28 (omega (arith, inside))) bit in
          absurd (both_ways (has_bit 0 (d - 1)) (bit_none (d - 1)) (subst R none set_bit))
    ]
