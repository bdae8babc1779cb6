use Rattle.drawing.proofs.Rows as rows
use Rattle.drawing.proofs.laws.rows_stand_in_time.Goals as goal

pub returns : goal.returns
returns c = record {
  rise = rows.rows_rise;
  initial = rows.initial_values_have_rows;
  values_counted = rows.values_are_counted;
  operations = rows.operations_have_rows;
  counted = rows.events_are_counted;
  effects = rows.effects_have_rows;
  first = rows.initial_rows_are_first;
  precedence = rows.rows_tell_precedence;
  within = rows.effect_rows_are_in_bars;
  in_order = rows.effect_rows_rise;
}
