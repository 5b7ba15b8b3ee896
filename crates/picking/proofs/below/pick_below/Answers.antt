use Rattle.std.proofs.Common.{arith}
use Rattle.tables.proofs.Ordered.{within_sizes}
use Rattle.messages.specs.Rooted.{problem_in, kept_in, hanging_in}
use Rattle.messages.proofs.OfPlaces.{parent_place}
use Rattle.picking.proofs.OfPlaces.{distinct_places, below_given}
use Rattle.picking.proofs.below.pick_below.Goals as goal

pub taken-values-requires : goal.taken-values-requires
taken-values-requires c =
    let r = c.args.forest.now in
    record {
      parent = parent_place (problem_in r) (kept_in r) (hanging_in r) c.args.function c.of-places.result c.of-places.ensures c.requires.known c.requires.rooted.well;
      row = omega (arith, c.requires.known, c.requires.rows, (within_sizes r.tables.now).few_functions);
    }

pub give_below-requires-clause-distinct : goal.give_below-requires-clause-distinct
give_below-requires-clause-distinct c = distinct_places c.args.forest.now c.args.function c.requires.known c.of-places.result c.of-places.ensures

pub returns : goal.returns
returns c =
    let taken = c.taken-values in
    below_given c.args.forest.now c.args.function c.requires.known c.of-places.result c.of-places.ensures c.requires.rooted
    c.args.choices.now.cells.now taken.result c.args.draft.now.values c.give_below.new.draft.values taken.ensures.values taken.ensures.fits c.give_below.ensures
