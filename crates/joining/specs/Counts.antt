-- How many entries a value is joined of, as a scale of its own: a message of that scale counts the entries in the message. Assumes nothing.
use Rattle.std.specs.Prelude.{ℕ, ◌+◌, ◌-◌, true, leb, pos}
use Rattle.scale.specs.Rules.{Rules}

abbrev pub counts : Rules ℕ
counts = record {
  leq = leb;
  join = ◌+◌;
  neutral = 0;
  gap = ◌-◌;
  entry = λ word. true;
  reads = λ word. 1;
  neutral_word = 0;
  shown = λ n. (pos n, pos 0);
  code = 0;
}
