use Rattle.std.proofs.Common.{◌≡◌, ◌*◌, ◌+◌, ◌∙◌, ap, pos, w8, w16, w64, to_z, to_z-of_z, arith, FitsSigned, rules}
use Rattle.std.specs.Prelude.{Some}
use Rattle.std.proofs.lemmas.Int.{to_z_pos}
use Rattle.jiff_core.specs.Date.{IsYmd}
use Rattle.jiff_core.proofs.SignedLemmas.{signed_arith}
use Rattle.cron_moments.specs.Civil.{civil}
use Rattle.cron_dues.proofs.ReaderLemmas.{date-spells, is-date, made, midnight-is, refused}
use Rattle.cron_dues.proofs.reader.midnight_of.Goals as goal

pub returns-in_err-date : goal.returns-in_err-date
returns-in_err-date c = λ n small is.
    let spelt = date-spells n c.args.text.now small is in
    let year : to_z w16 (c.two_at.result * 100 + c.two_at-2.result) ≡ (civil n).date.year =
    to_z_pos w16 (c.two_at.result * 100 + c.two_at-2.result) (omega arith)
    ∙ (ap pos (omega (arith, c.two_at.ensures.value, c.two_at-2.ensures.value)) ∙ spelt.year) in
    let month : to_z w8 c.two_at-month.result ≡ pos (civil n).date.month =
    to_z_pos w8 c.two_at-month.result (omega arith) ∙ ap pos (c.two_at-month.ensures.value ∙ spelt.month) in
    let day : to_z w8 c.two_at-day.result ≡ pos (civil n).date.day =
    to_z_pos w8 c.two_at-day.result (omega arith) ∙ ap pos (c.two_at-day.ensures.value ∙ spelt.day) in
    let can = is-date (civil n).date (to_z w16 (c.two_at.result * 100 + c.two_at-2.result)) (to_z w8 c.two_at-month.result) (to_z w8 c.two_at-day.result) year
    month day in
    absurd (refused c.new.result c.in_err-date.ensures.value (c.new.ensures.succeeds.1 can))

pub returns : goal.returns
returns c = λ n small is.
    let spelt = date-spells n c.args.text.now small is in
    let fits : FitsSigned w64 c.civil_number.result = search rules in
    let parts = made c.new.result c.in_ok-date.date
    (IsYmd (to_z w16 (c.two_at.result * 100 + c.two_at-2.result)) (to_z w8 c.two_at-month.result) (to_z w8 c.two_at-day.result)) c.in_ok-date.ensures.value
    c.new.ensures.value in
    let year : c.in_ok-date.date.year ≡ (civil n).date.year =
    parts.0 ∙ to_z_pos w16 (c.two_at.result * 100 + c.two_at-2.result) (omega arith)
    ∙ (ap pos (omega (arith, c.two_at.ensures.value, c.two_at-2.ensures.value)) ∙ spelt.year) in
    let month : pos c.in_ok-date.date.month ≡ pos (civil n).date.month =
    parts.1 ∙ to_z_pos w8 c.two_at-month.result (omega arith) ∙ ap pos (c.two_at-month.ensures.value ∙ spelt.month) in
    let day : pos c.in_ok-date.date.day ≡ pos (civil n).date.day =
    parts.2 ∙ to_z_pos w8 c.two_at-day.result (omega arith) ∙ ap pos (c.two_at-day.ensures.value ∙ spelt.day) in
    let number = midnight-is n c.to_datetime.result c.in_ok-date.date c.midnight.result c.civil_number.result small c.civil_number.ensures
    c.to_datetime.ensures.date c.to_datetime.ensures.time c.midnight.ensures year (omega (arith, signed_arith, month)) (omega (arith, signed_arith, day)) in
    ap Some (to_z-of_z fits ∙ number)
