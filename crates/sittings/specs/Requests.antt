-- Which call a request is, and what is made of it. Assumes nothing.
use Rattle.std.specs.Prelude.{◌≡◌, Option, Some, None, MatchOption}
use Rattle.scale.specs.Rules.{Rules}
use Rattle.theory.specs.KeptBy.{straight, bounded}
use Rattle.calls.specs.State.{State, Call}
use Rattle.sittings.specs.declared.reply.Reply.{Reply}
use Rattle.sittings.specs.declared.reply.Reply.TheVariants.{Unknown}
use Rattle.sittings.specs.declared.request.Request.{Request}
use Rattle.sittings.specs.declared.request.Request.TheVariants.{Variable, Function, Set, Weight, Score, Bounded, Straight, Report}
use Rattle.sittings.specs.Obeying.{Obeyed}

-- the call that a request is
abbrev pub call_of : Request → Option Call
call_of (Variable size) = Some (Call.add_variable size)
call_of (Function scope) = Some (Call.add_function scope.items)
call_of (Set function index word) = Some (Call.set_entry function index word)
call_of (Weight function place) = Some (Call.weight function place)
call_of (Score list) = Some (Call.score list.items)
call_of Bounded = Some (Call.solve bounded 2304 1024)
call_of Straight = Some (Call.solve straight 2304 1024)
call_of Report = Some Call.report

-- the same in a scale that cannot measure, which has no bounded solve and no weights
abbrev pub plain_call_of : Request → Option Call
plain_call_of (Variable size) = call_of (Variable size)
plain_call_of (Function scope) = call_of (Function scope)
plain_call_of (Set function index word) = call_of (Set function index word)
plain_call_of (Weight function place) = None
plain_call_of (Score list) = call_of (Score list)
plain_call_of Bounded = None
plain_call_of Straight = call_of Straight
plain_call_of Report = call_of Report

-- The request's call is made; a request that is no call is answered as unknown and changes nothing.
abbrev pub Obeys : {E : Type 0} → Rules E → (Request → Option Call) → State E → Request → Reply → State E → Type 0
Obeys R call s request r t = MatchOption (call request) ((r ≡ Unknown) × (t ≡ s)) (λ c. Obeyed R s c r t)
