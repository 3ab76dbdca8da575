-- Rules that read the same say the same at each instant, so that bytes say one table or none.
use Rattle.std.proofs.Common.{◌≡◌, ℕ, ◌+◌, ◌-◌, ◌<◌, ℤ, Bool, true, false, cond, List, get_or, Option, Some, None, option_map, Ok, Err, ◌⊎◌, inl, inr, refl, sym, ap, subst, ◌∙◌, arith}
use Rattle.std.specs.Prelude.{IfSome, length}
use Rattle.jiff_core.specs.Timestamp.{nanos_of_seconds}
use Rattle.jiff_core.specs.declared.Offset.{Offset}
use Rattle.jiff_core.specs.declared.error.TzifFault.{TzifFault}
use Rattle.jiff_tz.specs.Abbreviation.{abbreviation_text}
use Rattle.jiff_tz.specs.declared.info.Dst.{Dst as Saving}
use Rattle.jiff_tz.specs.declared.info.OffsetInfo.{OffsetInfo}
use Rattle.jiff_tz.specs.declared.posix.DayTime.{DayTime}
use Rattle.jiff_tz.specs.declared.posix.Dst.{Dst}
use Rattle.jiff_tz.specs.declared.posix.TimeZone.{TimeZone as PosixRule}
use Rattle.jiff_tz.specs.declared.tzif.Tzif.{Tzif}
use Rattle.jiff_tz.specs.PosixRule.{dst_at_by, dst_info, in_window, info_at, match_some, rule_nanos, std_info, utc_window}
use Rattle.jiff_tz.specs.Year.{year_of_nanos}
use Rattle.jiff_tz.specs.PosixText.{DstText, TzText, day_time_view, dst_view, tz_view}
use Rattle.jiff_tz.specs.Tzif.{HasBadRule, transition_at, tzif_view}
use Rattle.jiff_tz.specs.TzifAgree.{FooterAgrees, RowAgrees}
use Rattle.jiff_tz.specs.TzifReader.{TzifText, read_tzif}
use Rattle.jiff_tz.specs.TzifText.{TransitionText, no_row}
use Rattle.cron_clocks.specs.Tables.{row_at, transitions_of}
use Rattle.cron_clocks.proofs.TableLemmas.{transition_is, transitions_length}
use Rattle.cron_c.specs.ZoneFiles.{HasDoubleTransition, IsFileOf, transition_count}
use Rattle.cron_clocks.proofs.TableLemmas.{same_offset}

-- ---- what a rule says at an instant

turn_alike : (y : ℤ) (a b : DayTime) (s : ℤ) → day_time_view a ≡ day_time_view b → rule_nanos y a s ≡ rule_nanos y b s
unfolding rule_nanos
turn_alike y a b s same =
    let day : a.date ≡ b.date = ap (λ p. p.0) same in
    let time : a.time ≡ b.time = ap (λ p. p.1) same in
    rw (day, time) refl

window_alike : (d e : Dst) (y : ℤ) (std : Offset) → dst_view d ≡ dst_view e → utc_window d y std ≡ utc_window e y std
unfolding utc_window
window_alike d e y std same =
    let offset = same_offset d.offset e.offset (ap (λ (v : DstText). v.seconds) same) in
    let start = turn_alike y d.rule.start e.rule.start std.seconds (ap (λ (v : DstText). v.start) same) in
    let finish = turn_alike y d.rule.end e.rule.end d.offset.seconds (ap (λ (v : DstText). v.finish) same) in
    rw (start, finish, offset) refl

-- what an info reads
abbrev info_view : OffsetInfo → ℤ × Saving × List ℕ
info_view info = (info.offset.seconds, info.dst, abbreviation_text info.abbreviation)

abbrev info_by : PosixRule → Option Dst → ℤ → OffsetInfo
info_by rule saving n = match_some (dst_at_by rule.std_offset saving n) (std_info rule) dst_info

module _ (a b : PosixRule) (n : ℤ) (std : a.std_offset ≡ b.std_offset) (name : abbreviation_text a.std_abbrev ≡ abbreviation_text b.std_abbrev) where
  std_alike : info_view (std_info a) ≡ info_view (std_info b)
  std_alike = λ i. ((std i).seconds, (std_info a).dst, name i)

  saving_alike : (d e : Dst) → dst_view d ≡ dst_view e → info_view (dst_info d) ≡ info_view (dst_info e)
  saving_alike d e same = λ i. ((same i).seconds, (dst_info d).dst, (same i).name)

  picked_alike : (d e : Dst) (x : Bool) → dst_view d ≡ dst_view e
      → info_view (match_some (cond x (Some d) None) (std_info a) dst_info) ≡ info_view (match_some (cond x (Some e) None) (std_info b) dst_info)
  picked_alike d e true same = saving_alike d e same
  picked_alike d e false same = std_alike

  by_saving : (o p : Option Dst) → option_map dst_view o ≡ option_map dst_view p → info_view (info_by a o n) ≡ info_view (info_by b p n)
  by_saving None None same = std_alike
  by_saving None (Some e) same = absurd (cc)
  by_saving (Some d) None same = absurd (cc)
  by_saving (Some d) (Some e) same =
      let view : dst_view d ≡ dst_view e = cc in
      let window = ap (λ (o : Offset). utc_window d (year_of_nanos n) o) std ∙ window_alike d e (year_of_nanos n) b.std_offset view in
      rw window (picked_alike d e (in_window (utc_window e (year_of_nanos n) b.std_offset) n) view)

info_alike : (a b : PosixRule) (n : ℤ) → tz_view a ≡ tz_view b → info_view (info_at a n) ≡ info_view (info_at b n)
info_alike a b n same =
    by_saving a b n (same_offset a.std_offset b.std_offset (ap (λ (v : TzText). v.std_seconds) same)) (ap (λ (v : TzText). v.std_name) same)
    a.dst b.dst (ap (λ (v : TzText). v.dst) same)

row_too : (a b : PosixRule) (row : TransitionText) → tz_view a ≡ tz_view b → RowAgrees a row → RowAgrees b row
row_too a b row same agrees =
    let alike = sym (info_alike a b (nanos_of_seconds row.second) same) in
    (ap (λ v. v.0) alike ∙ agrees.0, ap (λ v. v.1) alike ∙ agrees.1, ap (λ v. v.2) alike ∙ agrees.2)

-- ---- bytes that say no table

-- they break the format, or the rule doesn't agree with the table
abbrev pub IsNoFile : List ℕ → Type 0
IsNoFile bytes = ((fault : TzifFault) × (read_tzif bytes ≡ Err fault)) ⊎ HasBadRule (read_tzif bytes)

-- a rule that doesn't agree with the table is that of no table
no_rule_agrees : (rows : List TransitionText) (rule : PosixRule) (o : Option PosixRule) → option_map tz_view o ≡ Some (tz_view rule)
    → IfSome o (λ own. FooterAgrees rows own) → FooterAgrees rows rule
no_rule_agrees rows rule None is agrees = absurd (cc)
no_rule_agrees rows rule (Some own) is agrees =
    let view : tz_view own ≡ tz_view rule = cc in
    λ some. row_too own rule (get_or rows (length rows - 1) no_row) view (agrees some)

pub none_said : (bytes : List ℕ) → IsNoFile bytes → (t : Tzif) → IsFileOf bytes t → ⊥
none_said bytes (inl fault) t file = let both = sym fault.1 ∙ file.0 in absurd (cc)
none_said bytes (inr bad) t file =
    let both : Ok bad.text ≡ Ok (tzif_view t) = sym bad.read ∙ file.0 in
    let text : bad.text ≡ tzif_view t = cc in
    let rule : option_map tz_view t.posix_tz ≡ Some (tz_view bad.rule) = sym (ap (λ (x : TzifText). x.rule) text) ∙ bad.is_rule in
    bad.disagrees (subst (λ (rows : List TransitionText). FooterAgrees rows bad.rule) (sym (ap (λ (x : TzifText). x.transitions) text))
    (no_rule_agrees (transitions_of t) bad.rule t.posix_tz rule file.1))

-- ---- tables that read the same have their transitions at the same seconds

second_alike : (t u : Tzif) (i : ℕ) → transitions_of t ≡ transitions_of u → i < transition_count t → i < transition_count u → (transition_at t i).second ≡ (transition_at u i).second
second_alike t u i same short other =
    ap (λ (r : TransitionText). r.second) (sym (transition_is t i short) ∙ ap (λ (rows : List TransitionText). row_at rows i) same ∙ transition_is u i other)

pub double_too : (bytes : List ℕ) (t u : Tzif) → IsFileOf bytes t → IsFileOf bytes u → HasDoubleTransition t → HasDoubleTransition u
double_too bytes t u file other (i, short, same) =
    let both : Ok (tzif_view t) ≡ Ok (tzif_view u) = sym file.0 ∙ other.0 in
    let view : tzif_view t ≡ tzif_view u = cc in
    let rows : transitions_of t ≡ transitions_of u = ap (λ (x : TzifText). x.transitions) view in
    let size : transition_count t ≡ transition_count u = sym (transitions_length t) ∙ ap length rows ∙ transitions_length u in (
      i,
      omega arith,
      sym (second_alike t u i rows (omega arith) (omega arith)) ∙ same ∙ second_alike t u (i + 1) rows (omega arith) (omega arith),
    )
