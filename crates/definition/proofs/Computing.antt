-- One name that opens every definition, for proofs by computation: `unfolding computing`. Assumes nothing.
use Rattle.definition.specs.Lists
use Rattle.definition.specs.Bytes
use Rattle.definition.specs.Model
use Rattle.definition.specs.Records
use Rattle.definition.specs.File
use Rattle.definition.specs.Routes
use Rattle.definition.specs.Pinned.Decoder
use Rattle.definition.specs.Devs
use Rattle.definition.specs.Atomic
use Rattle.definition.specs.SavedRun
use Rattle.definition.specs.Step
use Rattle.definition.specs.Instant
use Rattle.definition.specs.Advance
use Rattle.definition.specs.Engine
use Rattle.definition.specs.Flatten
use Rattle.definition.specs.Feed
use Rattle.definition.specs.Pinned.FeedReader
use Rattle.definition.specs.FeedCall
use Rattle.definition.specs.FlatMachine
use Rattle.definition.specs.Channels
use Rattle.definition.specs.FlatChannels
use Rattle.definition.specs.Calls
use Rattle.definition.specs.Columns
use Rattle.definition.specs.Pinned.TraceReader
use Rattle.definition.specs.TracesByColumn
use Rattle.definition.specs.Feeds

unfoldable pub computing : Type 0
unfolding
    Lists.concat Lists.sum Lists.all Lists.keep Lists.is_empty Lists.up_from Lists.count Lists.lex_le Lists.rises Lists.insert_by Lists.sort_by
    Bytes.little_endian Bytes.number_at Bytes.bytes_of Bytes.chunks Bytes.laid_out Bytes.stored
    Model.no_message Model.no_component Model.no_phase Model.no_rule Model.no_coupling Model.component_at Model.is_atomic Model.atomics
    Model.phases_before Model.phase_at Model.slots Model.outputs Model.is_child Model.is_sibling Model.children Model.message_le
    Model.coupling_row Model.coupling_le Model.forest Model.tree_at Model.tree
    Records.message_at Records.message_bytes Records.port_fits Decoder.to_component Records.component_bytes Decoder.coupled_fields
    Decoder.atomic_fields Decoder.kind_fields Decoder.root_fields Decoder.root_within Decoder.place_fits Decoder.component_fits Decoder.to_phase
    Records.phase_bytes Decoder.advance_fits Decoder.used_fit Decoder.unused_fit Decoder.phase_fields Decoder.bounds Decoder.phase_fits
    Decoder.to_rule Records.rule_bytes Decoder.rule_fields Decoder.rule_fits Decoder.to_coupling Records.coupling_bytes Decoder.related
    Decoder.coupling_fields Decoder.not_falling Decoder.coupling_fits
    Decoder.section_count Decoder.section File.section_bytes Decoder.component_count_refusal Decoder.phase_count_refusal Decoder.limit_refusal
    File.phase_total Decoder.component_section Decoder.phase_section Decoder.rule_section Decoder.coupling_section Decoder.is_fifth
    Decoder.fifth_section Decoder.elapsed_fits Decoder.end_of_file Decoder.further_sections Decoder.decode File.ranges_bytes File.model_bytes
    Routes.ports_to Routes.joined Routes.joined_all Routes.root_ends Routes.routes Decoder.accepted Decoder.check_model Routes.ends_in
    Routes.ways_from
    Devs.earlier Devs.remaining Devs.later Devs.same_time Devs.ticks Devs.translate_one Devs.translate Devs.sigma Devs.least_sigma
    Devs.outputs_to Devs.anew Devs.changed Devs.changed_all Devs.resultant_out Devs.resultant_int Devs.resultant_ext Devs.resultant_con Devs.transition
    Devs.devs_step Devs.devs_due
    Atomic.meets Atomic.up_to_end Atomic.within_elapsed Atomic.holds Atomic.deciding Atomic.told_as Atomic.unspent Atomic.followed Atomic.advance_of Atomic.next_phase
    Atomic.rule_for Atomic.time_advance Atomic.internal Atomic.external Atomic.confluent
    SavedRun.no_entry SavedRun.atomic_count SavedRun.run_length SavedRun.to_entry SavedRun.to_run SavedRun.run_of SavedRun.entry_bytes
    SavedRun.run_bytes SavedRun.due_of SavedRun.look_up SavedRun.entry_of SavedRun.next_due SavedRun.not_before SavedRun.entry_fits
    SavedRun.entries_fit SavedRun.run_fits SavedRun.due_at
    Step.elapsed Step.assoc Step.unload Step.decided_of Step.decided_in_file_order Step.step_on Step.step Step.load Step.leaves_of
    Instant.stepped Instant.is_due Instant.goes_on Instant.steps_at Instant.instant Instant.record_bytes Instant.trace_bytes
    Instant.records_from Instant.instant_trace Instant.last_part Instant.last_parts Instant.instant_parts Instant.instant_rules
    Advance.ended Advance.tried Advance.continued Advance.succeeded Advance.is_before Advance.advancing Advance.advance_from
    Engine.wrote Engine.start_run Engine.start Engine.to_bag Engine.bag_fits Engine.advance_checks Engine.table_bytes Engine.with_rules Engine.advanced Engine.advance
    Engine.due_number Engine.was_read Engine.reading_checks Engine.read_at Engine.reading
    Flatten.place_in Flatten.renumbered Flatten.flat_atomic Flatten.flat_components Flatten.flat_rule Flatten.flat_route Flatten.flat
    Flatten.flatten
    FlatMachine.sent FlatMachine.led_to FlatMachine.external_part FlatMachine.both_parts FlatMachine.rule_of_both FlatMachine.due_now FlatMachine.put_out
    FlatMachine.reaching FlatMachine.arriving FlatMachine.moved_by FlatMachine.moved FlatMachine.moved_all FlatMachine.rule_after FlatMachine.rules_after FlatMachine.flat_step
    FlatMachine.any_due FlatMachine.take_steps FlatMachine.first_due FlatMachine.flat_due FlatMachine.not_after FlatMachine.placed
    FlatMachine.in_order FlatMachine.recorded FlatMachine.entries_in FlatMachine.table_with FlatMachine.standing FlatMachine.verdict_on FlatMachine.copied FlatMachine.attempt
    FlatMachine.opened_past FlatMachine.or_end FlatMachine.due_before FlatMachine.in_turn FlatMachine.answered FlatMachine.flat_advance
    Feed.feed_bag_bytes Feed.feed_bytes Feed.last_moment Feed.first_moment Feed.feed_calls
    FeedReader.bag_length FeedReader.to_feed_bag FeedReader.feed_bag_fits FeedReader.bags_from FeedReader.feed_of
    FeedCall.nothing_fed FeedCall.stopped_by FeedCall.followed_by FeedCall.fed_in_turn FeedCall.own_bags FeedCall.fed_or FeedCall.feed_checks
    FeedCall.advance_feed
    FlatMachine.bags_in_turn FlatMachine.to_the_end FlatMachine.turned FlatMachine.flat_feed FlatMachine.flat_start FlatMachine.flat_reading
    Engine.numbers_of Engine.number_alone
    Channels.tried_within Channels.advancing_within Channels.advance_within Channels.part Channels.no_place Channels.bag_at Channels.or_past_end Channels.turn_checks
    Channels.turn Channels.turns Channels.channel_at Channels.channels_of Channels.eight_answers Channels.channelled Channels.miscounted
    Channels.advance_channels
    FlatChannels.attempt_within FlatChannels.in_turn_within FlatChannels.flat_turn FlatChannels.taken_out FlatChannels.put_back FlatChannels.one_channel
    FlatChannels.one_by_one FlatChannels.boxed FlatChannels.flat_channels
    Calls.called Calls.run_calls Calls.engine Calls.flat_machine
    Columns.pair_below Columns.record_fits Columns.column Columns.messages_of Columns.column_bytes
    TraceReader.is_in_order TraceReader.is_trace TraceReader.to_record TraceReader.record_length TraceReader.trace_records TraceReader.trace_of
    TraceReader.numbers_at TraceReader.messages_from TraceReader.dealt TraceReader.record_count TraceReader.counts_in TraceReader.messages_in
    TraceReader.column_records TraceReader.columns_of TraceReader.rearranged TraceReader.restored TraceReader.trace_to_columns TraceReader.columns_to_trace
    TracesByColumn.joined_traces
    Feeds.made_calls Feeds.counted Feeds.last_number
computing = Unit {0}
