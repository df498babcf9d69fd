pub mod OrderedEntries
pub mod OrderGoing
pub mod OrderSteps
pub mod OrderKept
pub mod OrderPassSteps
pub mod OrderUnique
pub mod OrderSharing
pub mod LocksKept
pub mod HeldLaws
pub mod ToldLaws
pub mod MappingLaws
pub mod WritingLaws
pub mod WatchLaws
pub mod WorkSteps
pub mod TurnSteps
pub mod LockPassSteps
pub mod SoundLockSteps
pub mod Buffers
pub mod LeftSteps
pub mod LoadedLast
pub mod LoadedWords
pub mod PageLaws
pub mod PageSteps
pub mod RingPassSteps
pub mod PutWords
pub mod RingLaws
pub mod RingSteps
pub mod ShownLaws
pub mod StoredWords
pub mod CopiedWords
pub mod LogReading
pub mod GrowthLaws
pub mod DiskCalls
pub mod Copies
pub mod PositionSteps
pub mod PositionKept
pub mod PositionCalls
pub mod WholeMachine
pub mod DurableTapes
pub mod DurableSegments
pub mod DurableGrowth
pub mod Setters
pub mod DurableAssured
pub mod DurableViewSteps
pub mod SegmentStates
pub mod DurableReserving
pub mod DurableViews
pub mod DurableCalls
pub mod DurableCallSteps
pub mod CrashLaws
pub mod WholeOrders
pub mod SoundDurableSteps
mod KnownViews
mod Frames
mod GroundBehind
mod OrderBehind
mod PositionsBehind
mod AlignedBehind
mod AsyncBehind
mod FaultBehind
mod AloneBehind
mod WordsRead
mod ReadingParts
mod ReadingCalls
mod ReadingBehind
pub mod WholeInvariant
pub mod EveryPassStep
pub mod EveryStep
pub mod OpeningLaws
mod MomentRises
mod MomentParts
mod MomentsBehind
mod PassMoments
pub mod EveryMoment
pub mod LoneLaws
pub mod ClosingLaws
pub mod ClosingNumbers
pub mod HolderLaws
pub mod EntryLaws
pub mod PositionLaws
pub mod WatcherLaws
pub mod SwitchSteps
