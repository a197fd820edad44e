-- The promises of exact time, proved: each theorem has the name of its statement in specs/Promises. Assumes nothing.
use Rattle.records.specs.Promises.{MomentIs, ExactlyOf, RoundedUpReaches, RoundedUpLeast}
use Rattle.records.proofs.ExactTime as exact

pub moment_is : MomentIs
moment_is = exact.moment_is

pub exactly_of : ExactlyOf
exactly_of = exact.exactly_of

pub rounded_up_reaches : RoundedUpReaches
rounded_up_reaches = exact.rounded_up_reaches

pub rounded_up_least : RoundedUpLeast
rounded_up_least = exact.rounded_up_least
