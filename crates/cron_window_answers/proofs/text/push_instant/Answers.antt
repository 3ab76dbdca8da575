use Rattle.std.proofs.Common.{◌≡◌, ℕ, pos, ◌*ℤ◌, rules, FitsSigned, w64, to_z-of_z, List, [], ◌∷◌, ◌++◌, ap, ◌∙◌}
use Rattle.std.specs.Fmt.{signed_decimal}
use Rattle.jiff.specs.Words.{plain_zone}
use Rattle.jiff_tz.specs.Zone.{offset_at}
use Rattle.cron_window_answers.proofs.TextLemmas.{counted-is, joined-2, moment-is}
use Rattle.cron_window_answers.proofs.text.push_instant.Goals as goal

pub returns-in-Some-clause-items : goal.returns-in-Some-clause-items
returns-in-Some-clause-items c =
    let fits : FitsSigned w64 c.args.second = search rules in
    let z = plain_zone c.args.zone.now in
    let at : c.instant_at.result.nanosecond ≡ c.args.second *ℤ pos 1_000_000_000 = rw (to_z-of_z fits) at c.instant_at.ensures in
    let offset : c.to_offset.result.seconds ≡ offset_at z (c.args.second *ℤ pos 1_000_000_000) = c.to_offset.ensures ∙ ap (offset_at z) at in
    let shows = rw (to_z-of_z fits) at c.in-Some.ensures.parts in
    let text = moment-is z c.args.second c.to_offset.result offset c.in-Some.moment shows in
    c.push_bytes.ensures.items
    ∙ ap (λ (s : List ℕ). c.args.line.now.items ++ s) (c.as_slice.ensures.value ∙ c.text_of.ensures.text ∙ text)

pub returns-in-None-clause-items : goal.returns-in-None-clause-items
returns-in-None-clause-items c =
    let fits : FitsSigned w64 c.args.second = search rules in
    let z = plain_zone c.args.zone.now in
    let at : c.instant_at.result.nanosecond ≡ c.args.second *ℤ pos 1_000_000_000 = rw (to_z-of_z fits) at c.instant_at.ensures in
    let offset : c.to_offset.result.seconds ≡ offset_at z (c.args.second *ℤ pos 1_000_000_000) = c.to_offset.ensures ∙ ap (offset_at z) at in
    let none = rw (to_z-of_z fits) at c.in-None.ensures.only in
    let number = rw (to_z-of_z fits) at c.push_number.ensures.items in
    joined-2 (64 ∷ []) (signed_decimal c.args.second) c.args.line.now.items c.push_bytes-in-None.new.line.items c.push_number.new.line.items
    c.push_bytes-in-None.ensures.items number
    ∙ ap (λ (s : List ℕ). c.args.line.now.items ++ s) (counted-is z c.args.second c.to_offset.result offset none)
