-- How the argument goes, from arguments to a request: Texts, Parses, Rows, NoKinds: what clap's contracts imply for
-- this program's command line, and for the rows of matches. Walks, Levels, Stops: a walk over arguments without a
-- fault keeps rows whose values pass, and stops at a subcommand. Answerable, Requests: so such arguments name a
-- subcommand whose options are given and in their ranges: a request.
pub mod NoKinds
pub mod Rows
pub mod Walks
pub mod Stops
pub mod Levels
pub mod Texts
pub mod Answerable
pub mod Parses
pub mod Requests
