use Rattle.std.proofs.Common.{◌∙◌, FitsSigned, ap, rules, to_z-of_z, w64}
use Rattle.jiff_tz.specs.PosixText.{TzText}
use Rattle.cron_c.proofs.TableEras.{bare_too, says_too}
use Rattle.cron_c.proofs.era_table.era_past.Goals as goal

pub returns : goal.returns
returns c =
    let fits : FitsSigned w64 c.start_past.result = search rules in
    record {
      rule = c.rule_past.ensures.own;
      start = to_z-of_z fits ∙ c.start_past.ensures;
      said = says_too c.struct_of.result c.rule_past.result c.rule_past.ensures.own c.rule_past.ensures.view c.struct_of.ensures.0;
      bare =
          bare_too c.struct_of.result c.rule_past.result.dst c.rule_past.ensures.own.dst (ap (λ (v : TzText). v.dst) c.rule_past.ensures.view)
          c.struct_of.ensures.1;
      past = c.rule_past.ensures.past;
    }
