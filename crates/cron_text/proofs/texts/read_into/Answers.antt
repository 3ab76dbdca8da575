use Rattle.std.proofs.Common.{◌≡◌, inl, None, List, ℕ, sym, ap, ◌∙◌, subst, rules}
use Rattle.cron_text.specs.Meaning.{DenoteSets, six_units, field_sets, shorthand_of, trimmed_front, trimmed_end}
use Rattle.cron_text.specs.Inner.Places.{tokens_from}
use Rattle.cron_text.specs.Tokens.{Token}
use Rattle.cron_text.proofs.TextRefusals.{nothing_meant}
use Rattle.cron_text.proofs.texts.read_into.Goals as goal

pub returns-in-None-clause-nothing : goal.returns-in-None-clause-nothing
returns-in-None-clause-nothing c = λ no.
    let text = c.args.text.now in
    let skipped = rw c.as_bytes-bytes.ensures.value at c.skip_space-start.ensures in
    let named = rw c.as_bytes-bytes.ensures.value at c.shorthand_at.ensures in
    let none : shorthand_of (trimmed_end (trimmed_front text)) ≡ None = ap (λ (bs : List ℕ). shorthand_of (trimmed_end bs)) (sym skipped.trims)
    ∙ (sym named ∙ c.in-None.is) in
    nothing_meant text (tokens_from text c.skip_space-start.result) skipped.same none (c.longhand.ensures.nothing no)

pub returns-in-Some-clause-sets : goal.returns-in-Some-clause-sets
returns-in-Some-clause-sets c = search rules

pub returns-in-Some-clause-nothing : goal.returns-in-Some-clause-nothing
returns-in-Some-clause-nothing c = search rules

pub returns-in-None-clause-sets : goal.returns-in-None-clause-sets
returns-in-None-clause-sets c = λ yes.
    let skipped = rw c.as_bytes-bytes.ensures.value at c.skip_space-start.ensures in
    inl (subst (λ (ts : List Token). DenoteSets six_units ts (field_sets c.longhand.new.fields)) skipped.same (c.longhand.ensures.sets yes))
