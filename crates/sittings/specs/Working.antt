-- What a request makes of a problem that is open, whichever of the four scales it is in. Assumes nothing.
use Rattle.std.specs.Prelude.{◌≡◌}
use Rattle.scale.specs.Levels.{capped, weakest}
use Rattle.scale.specs.Points.{points}
use Rattle.scale.specs.Ranks.{ranked}
use Rattle.sittings.specs.declared.open.Open.{Open}
use Rattle.sittings.specs.declared.open.Open.TheVariants.{Nothing, Points, Capped, Ranked, Weakest}
use Rattle.sittings.specs.declared.reply.Reply.{Reply}
use Rattle.sittings.specs.declared.reply.Reply.TheVariants.{Unknown}
use Rattle.sittings.specs.declared.request.Request.{Request}
use Rattle.sittings.specs.Requests.{call_of, plain_call_of, Obeys}
use Rattle.sittings.specs.States.{points_state, capped_state, ranked_state, weakest_state}

-- The problem that is open stays in its scale, and the request is obeyed in it; with none open, the request is unknown.
abbrev pub Asked : Open → Request → Reply → Open → Type 0
Asked Nothing request r Nothing = r ≡ Unknown
Asked (Points p) request r (Points q) = Obeys points call_of (points_state p) request r (points_state q)
Asked (Capped p) request r (Capped q) = Obeys capped call_of (capped_state p) request r (capped_state q)
Asked (Ranked p) request r (Ranked q) = Obeys ranked call_of (ranked_state p) request r (ranked_state q)
Asked (Weakest p) request r (Weakest q) = Obeys weakest plain_call_of (weakest_state p) request r (weakest_state q)
Asked _ request r _ = ⊥
