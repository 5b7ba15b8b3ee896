use Rattle.std.proofs.Common.{◌≡◌, unwrap_or, ap, ◌∙◌, subst, arith}
use Rattle.theory.specs.Kept.{kept_at}
use Rattle.hanging.proofs.Marking.{marks_variable, marks_function, sound_variable, sound_function}
use Rattle.hanging.proofs.Turns.{Places, functions_all, places_none, function_had, function_free, function_hung, place_same, place_had, place_free, place_hung, variable_done, function_done}
use Rattle.hanging.proofs.hung.Hung.+hang_function_hang_variable.Goals as goal
use Rattle.hanging.proofs.hung.Hung.+hang_function_hang_variable.Goals.{hang_function-in-Some+then-not-self-v, hang_function-in-Some+else-not-self-v, hang_function-in_default}

pub hang_function-loop-p-init : goal.hang_function-loop-p-init
hang_function-loop-p-init t c =
    let l = c.args.layout.now in
    let K = kept_at c.args.kept.now.words in
    places_none l K c.args.f c.mark_function.new.self
    (sound_function l K c.requires.sound c.requires.free c.mark_function.ensures)

pub hang_function-hang_variable-requires : goal.hang_function-hang_variable-requires
hang_function-hang_variable-requires t c =
    let l = c.args.layout.now in
    let K = kept_at c.args.kept.now.words in
    let inv = c.loop-p.invariant in
    let marked = marks_function l K c.requires.sound c.requires.free c.mark_function.ensures in (
      omega (arith, inv.grows.fewer, marked.fewer, c.decreases),
      (c.requires.around, (inv.sound, place_free l K c.loop-p.p inv c.in-Some.v c.loop-p-test.true c.in-Some.ensures.0 c.in-Some.ensures.1 marked.hung c.if-not-self-v.true)),
    )

pub hang_function-loop-p-preserved : goal.hang_function-loop-p-preserved
hang_function-loop-p-preserved t c =
    let l = c.args.layout.now in
    let K = kept_at c.args.kept.now.words in
    let inv = c.loop-p.invariant in
    let i = c.loop-p.p in
    let marked = marks_function l K c.requires.sound c.requires.free c.mark_function.ensures in
    elim c.match-variable.branch [
      | hang_function-in-Some+then-not-self-v w ↦
          place_hung l K i inv w.in-Some.v c.loop-p-test.true w.in-Some.ensures.0 w.in-Some.ensures.1 marked.hung w.if-not-self-v.true w.self-is w.hang_variable.ensures
      | hang_function-in-Some+else-not-self-v w ↦ place_had l K i inv w.self-is w.in-Some.v w.in-Some.ensures.1 w.if-not-self-v.false
      | hang_function-in_default w ↦ place_same l K i inv w.self-is (λ kept. absurd (w.in_default.ensures kept))
    ]

pub hang_function-returns : goal.hang_function-returns
hang_function-returns t c =
    let l = c.args.layout.now in
    let K = kept_at c.args.kept.now.words in
    let f = c.args.f in
    let end : c.loop-p.p ≡ 4 = omega (arith, c.loop-p-test.false, c.loop-p.auto.p-end) in
    let m = c.mark_function.new.self in
    (m, c.mark_function.ensures, function_done l K f m c.loop-p.self (subst (λ i. Places l K f m c.loop-p.self i) end c.loop-p.invariant))

pub hang_variable-loop-f-init : goal.hang_variable-loop-f-init
hang_variable-loop-f-init t c =
    let l = c.args.layout.now in
    let K = kept_at c.args.kept.now.words in
    functions_all l K c.args.v c.mark_variable.new.self
    (sound_variable l K c.requires.sound c.requires.free c.mark_variable.ensures)
    c.args.around.now c.requires.around

pub hang_variable-hang_function-requires : goal.hang_variable-hang_function-requires
hang_variable-hang_function-requires t c =
    let l = c.args.layout.now in
    let K = kept_at c.args.kept.now.words in
    let inv = c.loop-f.invariant in
    let marked = marks_variable l K c.requires.sound c.requires.free c.mark_variable.ensures in
    let found = c.unwrap_or-place.ensures ∙ ap (λ o. unwrap_or o 0) c.place_in.ensures in (
      omega (arith, inv.grows.fewer, marked.fewer, c.decreases),
      (c.requires.around, (inv.sound, function_free l K inv c.in-Some.ensures marked.hung c.if-is_none.ensures c.unwrap_or-place.result found)),
    )

pub hang_variable-loop-f-preserved-then-is_none : goal.hang_variable-loop-f-preserved-then-is_none
hang_variable-loop-f-preserved-then-is_none t c =
    let l = c.args.layout.now in
    let K = kept_at c.args.kept.now.words in
    let marked = marks_variable l K c.requires.sound c.requires.free c.mark_variable.ensures in
    let found = c.unwrap_or-place.ensures ∙ ap (λ o. unwrap_or o 0) c.place_in.ensures in
    function_hung l K c.loop-f.invariant c.in-Some.ensures marked.hung c.if-is_none.ensures c.unwrap_or-place.result found c.hang_function.ensures

pub hang_variable-loop-f-preserved : goal.hang_variable-loop-f-preserved
hang_variable-loop-f-preserved t c =
    function_had c.args.layout.now (kept_at c.args.kept.now.words) c.loop-f.invariant c.in-Some.ensures c.if-is_none.ensures

pub hang_variable-returns : goal.hang_variable-returns
hang_variable-returns t c =
    let l = c.args.layout.now in
    let K = kept_at c.args.kept.now.words in
    let m = c.mark_variable.new.self in
    (m, c.mark_variable.ensures, variable_done l K c.args.v m c.loop-f.self c.loop-f.left c.loop-f.invariant c.in_default.ensures)
