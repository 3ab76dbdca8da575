-- The months of a year, from one of them on, by a row of bits.
use Rattle.std.proofs.Common.{◌≡◌, ℕ, ◌+◌, ◌*◌, ◌/◌, ◌%◌, ◌<◌, ℤ, pos, ◌⊎◌, nat_lt, true, false, Option, Some, None, MatchOption, refl, sym, subst, ◌∙◌, inl, inr, arith}
use Rattle.std.proofs.lemmas.Bool.{and_from, and_parts, and_right, cases_eq, cases_lt, lt-ltb, ltb-true}
use Rattle.jiff_core.proofs.SignedLemmas.{signed_arith}
use Rattle.cron_bits.specs.Words.{has_bit}
use Rattle.cron_bits.proofs.WordLemmas.{bit_past}
use Rattle.cron_units.specs.declared.way.Way.{Way}
use Rattle.cron_units.specs.declared.way.Way.TheVariants.{Ahead, Back}
use Rattle.cron_units.specs.Nearest.{LiesFrom, Precedes, IsNearest, IsNearestAt}
use Rattle.cron_units.specs.Sets.{Sets}
use Rattle.cron_units.specs.Units.{contains}
use Rattle.cron_moments.specs.Calendar.{month_of, year_of}
use Rattle.cron_time.specs.Search.Inner.Blocks.{AllFail, Reaches, left_to_reach}
use Rattle.cron_time.specs.Search.Inner.MonthDays.{AreMonths, ComesTo, IsBare, IsRestBare, LeadsOn, has_matching, matches_ranked}
use Rattle.cron_time.specs.Search.Inner.Numbers.{beyond, beyond_block, matches_month}
use Rattle.cron_time.specs.Search.Inner.Questions.{outermost}
use Rattle.cron_time.proofs.Searches.BlockLemmas.{BlockFails}
use Rattle.cron_time.proofs.Searches.LeapLemmas.{bare_fails, unwanted_bare}
use Rattle.cron_time.proofs.Searches.MonthDayLemmas.{by_place}
use Rattle.cron_time.proofs.Searches.WayLemmas.{side, before, same, after, lies_self, lies_not_before, lies_or_before, lies_past}

-- a month without a bit is bare
pub month_bare : (way : Way) (s : Sets) (month word : ℕ) → ((k : ℕ) → has_bit word k ≡ has_matching s month (k + 1))
    → AllFail way (has_bit word) (pos (outermost way 100)) → IsBare s month
month_bare way s month word days none day =
    and_right (matches_month s month) (has_matching s month day) (by_place s month day (λ k f. sym (days k) ∙ unset way k none))
  where
    few : (way : Way) (k : ℕ) → k < 64 → LiesFrom way (pos (outermost way 100)) k
    few Ahead k h = omega (arith, signed_arith)
    few Back k h = omega (arith, signed_arith)

    unset : (way : Way) (k : ℕ) → AllFail way (has_bit word) (pos (outermost way 100)) → has_bit word k ≡ false
    unset way k none = elim (cases_lt k 64) [ inl l ↦ none k (few way k l) | inr g ↦ bit_past word k g ]

-- where the search in a year has come to
abbrev pub ComesToPlace : Way → Sets → ℕ → Option ℕ → Type 0
ComesToPlace way s from next = MatchOption next (IsRestBare way s (pos from) (from / 12)) (λ place. (place < 12) × ComesTo way s from (12 * (from / 12) + place))

month_is : (year place : ℕ) → place < 12 → (year_of (12 * year + place) ≡ year) × (month_of (12 * year + place) ≡ place + 1)
month_is year place h = (omega arith, omega arith)

-- a month whose bit is 0 isn't wanted
unset_bare : (s : Sets) (k months : ℕ) → AreMonths s months → has_bit months (k % 12) ≡ false → IsBare s k
unset_bare s k months are unset =
    let out : contains s.months (k % 12 + 1) ≡ false = sym (rw (lt-ltb (k % 12) 12 (omega arith)) at (are (k % 12))) ∙ unset in
    unwanted_bare s k (and_right (contains s.years (year_of k)) (contains s.months (month_of k)) out)

rest_beyond : (way : Way) (year place k : ℕ) → place < 12 → LiesFrom way (beyond way (12 * year + place)) k → k / 12 ≡ year
    → LiesFrom way (beyond way place) (k % 12)
rest_beyond Ahead year place k h lies e = omega (arith, signed_arith)
rest_beyond Back year place k h lies e = omega (arith, signed_arith)

own_year : (way : Way) (year place next k : ℕ) → place < 12 → next < 12 → LiesFrom way (beyond way (12 * year + place)) k
    → Precedes way k (12 * year + next) → (k / 12 ≡ year) × Precedes way (k % 12) next
own_year Ahead year place next k h less lies lt = (omega (arith, signed_arith), omega (arith, signed_arith))
own_year Back year place next k h less lies lt = (omega (arith, signed_arith), omega (arith, signed_arith))

place_past : (way : Way) (year place next : ℕ) → LiesFrom way (beyond way place) next → LiesFrom way (beyond way (12 * year + place)) (12 * year + next)
place_past Ahead year place next h = omega (arith, signed_arith)
place_past Back year place next h = omega (arith, signed_arith)

-- past a bare month it comes to that of the next bit
pub row_leads : (way : Way) (s : Sets) (from place months : ℕ) (next : Option ℕ) → matches_month s from ≡ true → place < 12 → AreMonths s months
    → ComesTo way s from (12 * (from / 12) + place) → IsBare s (12 * (from / 12) + place) → IsNearest way (has_bit months) (beyond way place) next
    → ComesToPlace way s from next
row_leads way s from place months None wanted small are come bare none = λ k lies e.
    elim (side way (12 * (from / 12) + place) k) [
      | before lt ↦ come.between k lies lt
      | same is ↦ subst (IsBare s) (sym is) bare
      | after past gt ↦ unset_bare s k months are (none (k % 12) (rest_beyond way (from / 12) place k small past e))
    ]
row_leads way s from place months (Some next) wanted small are come bare found =
    let set = and_parts (nat_lt next 12) (contains s.months (next + 1)) (sym (are next) ∙ found.passes) in
    let less : next < 12 = ltb-true next 12 set.0 in
    let is = month_is (from / 12) next less in
    let year = (and_parts (contains s.years (year_of from)) (contains s.months (month_of from)) wanted).0 in (
      less,
      record {
        wanted = rw (is.0, is.1) (and_from (contains s.years (from / 12)) (contains s.months (next + 1)) year set.1);
        lies = lies_past way (pos from) _ _ come.lies (place_past way (from / 12) place next found.lies);
        between = λ k lies early. elim (side way (12 * (from / 12) + place) k) [
          | before lt ↦ come.between k lies lt
          | same e ↦ subst (IsBare s) (sym e) bare
          | after past gt ↦
              let own = own_year way (from / 12) place next k small less past early in
              unset_bare s k months are (found.nearest (k % 12) (rest_beyond way (from / 12) place k small past own.0) own.1)
        ];
      },
    )

-- it begins at its start
pub row_start : (way : Way) (s : Sets) (from : ℕ) → matches_month s from ≡ true → ComesTo way s from (12 * (from / 12) + from % 12)
row_start way s from wanted =
    let e : from ≡ 12 * (from / 12) + from % 12 = omega arith in
    let start : ComesTo way s from from = record {
      wanted = wanted;
      lies = lies_self way from;
      between = λ k lies early. lies_not_before way from k lies early;
    } in
    subst (ComesTo way s from) e start

-- so a search of all comes there too
pub reach_on : (way : Way) (s : Sets) (start first : ℤ) (from next : ℕ) → Reaches way 100 (matches_month s) (matches_ranked s) start first from
    → ComesTo way s from next → Reaches way 100 (matches_month s) (matches_ranked s) start first next
reach_on way s start first from next reached come = record {
  block = come.wanted;
  lies = on way first from next reached.lies come.lies;
  failed = λ n lies early. elim (lies_or_before way from (n / 100)) [
    | inl there ↦ bare_fails s n (come.between (n / 100) there early)
    | inr lt ↦ reached.failed n lies lt
  ];
}
  where
    on : (way : Way) (first : ℤ) (from next : ℕ) → LiesFrom way first from → LiesFrom way (pos from) next → LiesFrom way first next
    on Ahead first from next a b = omega (arith, signed_arith)
    on Back first from next a b = omega (arith, signed_arith)

pub rest_fails : (way : Way) (s : Sets) (start : ℤ) (from : ℕ) → IsRestBare way s (pos from) (from / 12) → BlockFails way 100 (matches_ranked s) start from
rest_fails way s start from bare n lies e = bare_fails s n (subst (IsBare s) (sym e) (bare from (lies_self way from) refl))

-- past a year without a matching day the months of the other years follow
year_or_past : (way : Way) (month k : ℕ) → LiesFrom way (beyond way month) k
    → (k / 12 ≡ month / 12) ⊎ LiesFrom way (beyond_block way 12 (month / 12)) k
year_or_past Ahead month k h =
    elim (cases_eq (k / 12) (month / 12)) [
      | inl e ↦ inl e
      | inr d ↦ inr (omega (arith, signed_arith, d))
    ]
year_or_past Back month k h =
    elim (cases_eq (k / 12) (month / 12)) [
      | inl e ↦ inl e
      | inr d ↦ inr (omega (arith, signed_arith, d))
    ]

past_year : (way : Way) (month n : ℕ) → LiesFrom way (beyond_block way 12 (month / 12)) n → LiesFrom way (beyond way month) n
past_year Ahead month n h = omega (arith, signed_arith)
past_year Back month n h = omega (arith, signed_arith)

pub year_leads : (way : Way) (s : Sets) (month : ℕ) (next : Option ℕ) → IsRestBare way s (beyond way month) (month / 12)
    → IsNearest way (matches_month s) (beyond_block way 12 (month / 12)) next → LeadsOn way s month next
year_leads way s month None rest none = λ k lies.
    elim (year_or_past way month k lies) [
      | inl own ↦ rest k lies own
      | inr past ↦ unwanted_bare s k (none k past)
    ]
year_leads way s month (Some n) rest found = record {
  wanted = found.passes;
  lies = past_year way month n found.lies;
  between = λ k lies early. elim (year_or_past way month k lies) [
    | inl own ↦ rest k lies own
    | inr past ↦ unwanted_bare s k (found.nearest k past early)
  ];
}

-- the next month of the year follows a month
pub row_next : (way : Way) (s : Sets) (month months next : ℕ) → matches_month s month ≡ true → AreMonths s months
    → IsNearestAt way (has_bit months) (beyond way (month % 12)) next → (next < 12) × LeadsOn way s month (Some (month / 12 * 12 + next))
row_next way s month months next wanted are found =
    let set = and_parts (nat_lt next 12) (contains s.months (next + 1)) (sym (are next) ∙ found.passes) in
    let less : next < 12 = ltb-true next 12 set.0 in
    let year = (and_parts (contains s.years (year_of month)) (contains s.months (month_of month)) wanted).0 in
    let y : year_of (month / 12 * 12 + next) ≡ month / 12 = omega arith in
    let m : month_of (month / 12 * 12 + next) ≡ next + 1 = omega arith in (
      less,
      record {
        wanted = rw (y, m) (and_from (contains s.years (month / 12)) (contains s.months (next + 1)) year set.1);
        lies = further way month next found.lies;
        between = λ k lies early.
            let own = within_year way month next k less lies early in
            unset_bare s k months are (found.nearest (k % 12) own.1 own.2);
      },
    )
  where
    further : (way : Way) (month next : ℕ) → LiesFrom way (beyond way (month % 12)) next → LiesFrom way (beyond way month) (month / 12 * 12 + next)
    further Ahead month next h = omega (arith, signed_arith)
    further Back month next h = omega (arith, signed_arith)

    within_year : (way : Way) (month next k : ℕ) → next < 12 → LiesFrom way (beyond way month) k → Precedes way k (month / 12 * 12 + next)
        → (k / 12 ≡ month / 12) × LiesFrom way (beyond way (month % 12)) (k % 12) × Precedes way (k % 12) next
    within_year Ahead month next k less lies lt = (omega (arith, signed_arith), omega (arith, signed_arith), omega (arith, signed_arith))
    within_year Back month next k less lies lt = (omega (arith, signed_arith), omega (arith, signed_arith), omega (arith, signed_arith))

-- or the rest of its year is bare
pub row_none : (way : Way) (s : Sets) (month months : ℕ) → AreMonths s months → AllFail way (has_bit months) (beyond way (month % 12))
    → IsRestBare way s (beyond way month) (month / 12)
row_none way s month months are none k lies e = unset_bare s k months are (none (k % 12) (rest_of way month k lies e))
  where
    rest_of : (way : Way) (month k : ℕ) → LiesFrom way (beyond way month) k → k / 12 ≡ month / 12 → LiesFrom way (beyond way (month % 12)) (k % 12)
    rest_of Ahead month k lies e = omega (arith, signed_arith)
    rest_of Back month k lies e = omega (arith, signed_arith)

-- what lies past a month lies from it on
pub rest_past : (way : Way) (s : Sets) (month : ℕ) → IsRestBare way s (pos month) (month / 12) → IsRestBare way s (beyond way month) (month / 12)
rest_past way s month rest k lies e = rest k (lies_past way (pos month) month k (lies_self way month) lies) e

-- what is left of the row grows less
pub row_smaller : (way : Way) (place months : ℕ) (next : Option ℕ) → place < 12 → IsNearest way (has_bit months) (beyond way place) next
    → left_to_reach way 12 next < left_to_reach way 12 (Some place)
row_smaller Ahead place months None small h = omega arith
row_smaller Back place months None small h = omega arith
row_smaller Ahead place months (Some n) small h = omega (arith, signed_arith, h.lies)
row_smaller Back place months (Some n) small h = omega (arith, signed_arith, h.lies)
