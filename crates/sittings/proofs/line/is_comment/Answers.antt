use Rattle.std.proofs.Common.{lit<}
use Rattle.std.proofs.lemmas.Str.Pattern.{starts_char}
use Rattle.sittings.proofs.line.is_comment.Goals as goal

pub returns : goal.returns
returns c = starts_char 35 c.args.text.now _ c.starts_with.ensures.cases (lit< tt) (lit< tt)
