-- Request (vii) of document 02, "Drop the oversize bag number", as statements about the definitions; crate `theory` proves them. They hold with
-- any bag, from any state of the nest and any entries, reachable or not, so in every step of every run. Assumes nothing.
use Rattle.std.specs.Prelude.{◌≡◌, ℕ, ◌*◌, ◌≤◌, ◌||◌, eqb, length, get_or}
use Rattle.definition.specs.Lists.{count}
use Rattle.definition.specs.Bytes.{Bytes, AllBytes, ok}
use Rattle.definition.specs.Limits.{max_outputs, max_routes, max_root_bag}
use Rattle.definition.specs.Model.{Bag, Model, phase_at, outputs}
use Rattle.definition.specs.Routes.{routes}
use Rattle.definition.specs.Pinned.Decoder.{accepted, check_model}
use Rattle.definition.specs.Pinned.TraceReader.{trace_to_columns, columns_to_trace}
use Rattle.definition.specs.Devs.{Since, devs_step}
use Rattle.definition.specs.Engine.{number_alone, start, advance, reading}
use Rattle.definition.specs.FeedCall.{advance_feed}
use Rattle.definition.specs.Channels.{ChannelsCall, advance_channels}
use Rattle.definition.specs.Flatten.{flatten}
use Rattle.definition.specs.FlatMachine.{Copy, flat_step}
use Rattle.definition.specs.Carrying.{root_of}
use Rattle.definition.specs.AtomicBags.{ending_at}

-- The root's output bag in a step of its resultant, and in a step of the flat machine.
abbrev pub NestPutsOut : Model → ℕ → Type 0
NestPutsOut m limit = (now : ℕ) (x : Bag) (q : Since (root_of m)) → length (devs_step (root_of m) now x q).0 ≤ limit

abbrev pub FlatPutsOut : Model → ℕ → Type 0
FlatPutsOut m limit = (now : ℕ) (x : Bag) (k : Copy) → length (flat_step m now x k).0 ≤ limit

pub record RootBagOf (m : Model) : Type 0 where
  -- "At most 1,024 routes start or end at the root"
  pub few_routes : count (λ k. eqb k.source 0 || eqb k.target 0) (routes m) ≤ max_routes
  -- "and one from an atomic carries at most 4 messages in a step": no more are put out, and each goes once along a route
  pub put_out_lem : (c p : ℕ) → length (outputs (phase_at m c p)) ≤ max_outputs
  -- so that the root's bag has at most so many for each route that ends there
  pub by_routes : NestPutsOut m (max_outputs * ending_at 0 (routes m))
  -- in the flat machine for each coupling: those of a flat form, itself an accepted model (demand 3), are the routes
  pub flat_by_couplings : FlatPutsOut m (max_outputs * ending_at 0 m.couplings)
  -- "the condition never comes about": "a step's root bag over 4,096 messages"
  pub nest : NestPutsOut m max_root_bag
  pub flat : FlatPutsOut m max_root_bag

-- The number that is retired.
abbrev pub retired_number : ℕ
retired_number = 14

-- The numbers that calls give, whatever bytes and numbers they are given.
pub data Given : ℕ → Type 0 where
  by_check : (file : Bytes) → AllBytes file → Given (check_model file)
  by_start : (file buffer : Bytes) → AllBytes file → Given (start file buffer).number
  by_advance : (file run : Bytes) (t : ℕ) (bag trace table : Bytes) → AllBytes file → Given (advance file run t bag trace table).number
  by_feed : (file run : Bytes) (end : ℕ) (feed trace : Bytes) → AllBytes file → AllBytes feed → Given (advance_feed file run end feed trace).number
  by_channels : (file runs : Bytes) (b : ChannelsCall) → AllBytes file → Given (advance_channels file runs b).number
  by_channel : (file runs : Bytes) (b : ChannelsCall) (i : ℕ) → AllBytes file → Given (get_or (advance_channels file runs b).answers i (number_alone 0)).number
  by_reading : (file run : Bytes) (position : ℕ) → AllBytes file → Given (reading file run position).number
  by_flatten : (file buffer : Bytes) → AllBytes file → Given (flatten file buffer).number
  by_columns : (trace buffer : Bytes) → AllBytes trace → Given (trace_to_columns trace buffer).number
  by_trace : (columns buffer : Bytes) → AllBytes columns → Given (columns_to_trace columns buffer).number

pub record RootBags : Type 0 where
  pub bags : (file : Bytes) (m : Model) → AllBytes file → accepted file ≡ ok m → RootBagOf m
  -- "retire the number": no call gives it
  pub retired : (n : ℕ) → Given n → n ≡ retired_number → ⊥
