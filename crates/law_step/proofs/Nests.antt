-- The tree of each component by its number, from the route laws: the pulled account goes by numbers, the nest's own by trees. Assumes nothing.
pub use Rattle.law_routes.specs.Ways.{Rising}
unfoldable pub use Rattle.law_routes.specs.Ways.{sub}
pub use Rattle.law_routes.proofs.Nests.{sub-step, sub-name}
pub use Rattle.law_routes.proofs.Routed.{over-atomics}
