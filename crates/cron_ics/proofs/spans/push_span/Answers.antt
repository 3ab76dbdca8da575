use Rattle.std.proofs.Common.{rules, ◌≡◌, ◌++◌, List, ℕ, ℤ, FitsSigned, codes, refl, to_z-of_z, w64}
use Rattle.jiff.specs.Words.{civil_nanos}
use Rattle.jiff_core.specs.Timestamp.{nanos_of_seconds}
use Rattle.cron_ics.specs.Events.{digest_text, summary_line}
use Rattle.cron_ics.specs.Folding.{folded}
use Rattle.cron_ics.specs.Spans.{span_text, span_uid}
use Rattle.cron_ics.specs.Stamps.{stamp_text}
use Rattle.cron_ics.proofs.LineLemmas.{eight_texts}
use Rattle.cron_ics.proofs.spans.push_span.Goals as goal

with_ends : (digest domain base new : List ℕ) (from until first last : ℤ) → first ≡ from → last ≡ until
    → new ≡ base ++ folded (span_uid digest first last domain) → new ≡ base ++ folded (span_uid digest from until domain)
with_ends digest domain base new from until first last f l is = rw (f, l) at is

pub returns : goal.returns
returns c =
    let s = c.args.series.now in
    let digest = digest_text s.text.now in
    let stamp = c.utc_of-stamp.result in
    let start = c.utc_at-start.result in
    let end = c.utc_at-end.result in
    let fits-from : FitsSigned w64 c.args.from = search rules in
    let fits-until : FitsSigned w64 c.args.until = search rules in
    let from : civil_nanos start ≡ nanos_of_seconds c.args.from = rw (to_z-of_z fits-from) at c.utc_at-start.ensures in
    let until : civil_nanos end ≡ nanos_of_seconds c.args.until = rw (to_z-of_z fits-until) at c.utc_at-end.ensures in
    let uid = with_ends digest s.domain.text.now _ _ c.args.from c.args.until _ _ (to_z-of_z fits-from) (to_z-of_z fits-until) c.in_ok-push_uid.ensures in (
      span_text s c.args.summary.now c.args.from c.args.until stamp start end,
      (stamp, start, end, c.utc_of-stamp.ensures, from, until, refl),
      eight_texts c.args.page.now.items _ _ _ _ _ _ (folded (codes "BEGIN:VEVENT"))
          (folded (span_uid digest c.args.from c.args.until s.domain.text.now)) (folded (codes "DTSTAMP:" ++ stamp_text stamp))
          (folded (codes "DTSTART:" ++ stamp_text start)) (folded (codes "DTEND:" ++ stamp_text end)) (folded (summary_line c.args.summary.now))
          (folded (codes "TRANSP:TRANSPARENT")) (folded (codes "END:VEVENT")) c.in_ok-push_line.ensures uid
          c.in_ok-push_ends.ensures c.in_ok-push_summary.ensures c.in_ok-push_line-2.ensures c.in_ok-push_line-3.ensures,
    )
