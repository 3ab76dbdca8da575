use Rattle.std.proofs.Common.{◌≡◌, Option, Some, None, is_some, false, pos, refl, sym, ◌∙◌}
use Rattle.jiff.specs.Words.{plain_zone}
use Rattle.jiff_tz.specs.declared.timezone.TimeZone.TheVariants.{Posix}
use Rattle.cron_test_vectors.proofs.laws.by_rule.Goals as goal

no_saving : {A : Type 0} (o : Option A) → is_some o ≡ false → o ≡ None
no_saving None h = refl
no_saving (Some x) h = cc

pub first_instants-requires : goal.first_instants-requires
first_instants-requires c =
    let is : plain_zone c.args.zone.now ≡ Posix c.in-Posix.rule = sym c.to_plain.ensures ∙ c.in-Posix.is in
    let plain = no_saving c.in-Posix.rule.dst (sym c.is_some.ensures ∙ c.if-is_some.false) in
    let one = c.one_offset.ensures.rules c.in-Posix.rule plain in
    rw (is, one.shown (pos 0)) one
