use Rattle.std.proofs.Common.{◌≡◌, ℕ, ◌+◌, ◌-◌, ◌*◌, ◌/◌, ◌<◌, ◌^◌, Bool, true, Some, None, Ok, Err, subst, sym, ap, ◌∙◌, arith}
use Rattle.wal_reader.specs.Beginning.{goes_on}
use Rattle.wal_reader.specs.Cache.{IsLoaded}
use Rattle.wal_reader.specs.PageCursor.{Sees}
use Rattle.wal_reader.specs.Decodes.{begin_in, begin_at, beginning, ended}
use Rattle.wal_reader.specs.Pages.{Pages}
use Rattle.wal_reader.specs.ReadsOn.{ReadsOn}
use Rattle.wal_reader.proofs.ReadsOnLaws.{reads_more}
use Rattle.wal_reader.specs.declared.beginning.Front.{Front}
use Rattle.wal_reader.specs.declared.beginning.Front.TheVariants.{Here, Filled}
use Rattle.wal_reader.specs.declared.found.Answer.{Answer}
use Rattle.byte_position.specs.Position.{position_of}
use Rattle.wal_reader.proofs.BeginningLaws.{begins_by_front, begins_nowhere_more}
use Rattle.wal_reader.proofs.beginning.find_beginning.Given.{Over}
use Rattle.wal_reader.proofs.beginning.find_beginning.Goals as goal
use Rattle.wal_reader.proofs.beginning.find_beginning.Goals.{After-front_of}
use Rattle.std.specs.Prelude.{Result}

-- once a page was looked at, where reading begins is settled by its front and the turns that are left
step : (g : Over) (c : After-front_of g) (pages : Pages) → Sees (g.D.Disk.tape c.args.disk.now) c.args.cache.now pages → (turns : ℕ) → turns + (c.pages.page + 1) ≡ 2 ^ 47 + c.args.start.0 / 8192
    → beginning c.args.cache.now.geometry pages c.args.start.0 ≡ goes_on (begin_at turns c.args.cache.now.geometry pages) c.pages.page c.front_of.result
step g c pages sees turns left =
    let size = c.args.cache.now.geometry in
    let page = c.pages.page in
    let bytes = c.load.new.self.bytes.value in
    let before = c.pages.invariant.begins pages sees in
    let loaded = c.in_ok-load.ensures.loaded pages (c.pages.invariant.reads_on.sees pages sees) in
    let same : c.load.new.self.geometry ≡ size = c.in_ok-load.ensures.reads_on.geometry ∙ c.pages.invariant.reads_on.geometry in
    let held : IsLoaded (pages page) page true c.load.new.self = subst (λ (there : Bool). IsLoaded (pages page) page there c.load.new.self) c.if-branch.true loaded in
    let there : pages page ≡ Some bytes = held.1 in
    let told : Result Front Answer = c.front_of.result in
    let front : (next : _) → begin_in next size page c.pages.timeline (Some bytes) ≡ goes_on next page told = λ next. subst (λ (n : ℕ). begin_in next n page c.pages.timeline (Some bytes) ≡ goes_on next page told) same (c.front_of.ensures.begins next) in
    begins_by_front size pages page c.pages.timeline (2 ^ 47 + c.args.start.0 / 8192) (beginning size pages c.args.start.0) before bytes told there front turns left

-- the page that was looked at is one that can be there
reaches : (g : Over) (c : After-front_of g) → c.pages.page < 2 ^ 47
reaches g c = c.in_ok-load.ensures.reach c.if-branch.true

settled : (g : Over) (c : After-front_of g) (said : Result Front Answer) → c.front_of.result ≡ said → (pages : Pages) → Sees (g.D.Disk.tape c.args.disk.now) c.args.cache.now pages → (turns : ℕ) × (beginning c.args.cache.now.geometry pages c.args.start.0 ≡ goes_on (begin_at turns c.args.cache.now.geometry pages) c.pages.page said)
settled g c said is pages sees =
    let reach = reaches g c in
    let turns = 2 ^ 47 + c.args.start.0 / 8192 - (c.pages.page + 1) in
    (turns, step g c pages sees turns (omega arith) ∙ ap (goes_on (begin_at turns c.args.cache.now.geometry pages) c.pages.page) is)

reads_on : (g : Over) (c : After-front_of g) → ReadsOn g.D.Disk.tape g.D.Disk.moment c.args.disk.now c.load.new.disk c.args.cache.now c.load.new.self
reads_on g c = reads_more c.pages.invariant.reads_on c.in_ok-load.ensures.reads_on

pub returns-in-Ok-Here-clause-begins : goal.returns-in-Ok-Here-clause-begins
returns-in-Ok-Here-clause-begins g c pages sees =
    let before = (goal.at.returns-in-Ok-Here-clause-begins g c).After-front_of in
    let said : Result Front Answer = Ok (Here c.in-Ok-Here.place) in
    (settled g before said (c.in-Ok-Here.is ∙ ap Ok c.in-Ok-Here.field-0-is) pages sees).1

pub returns-in-Err-clause-begins : goal.returns-in-Err-clause-begins
returns-in-Err-clause-begins g c pages sees =
    let before = (goal.at.returns-in-Err-clause-begins g c).After-front_of in
    let said : Result Front Answer = Err c.in-Err.answer in
    (settled g before said c.in-Err.is pages sees).1

pub pages-preserved : goal.pages-preserved
pages-preserved g c =
    let before = (goal.at.pages-preserved g c).After-front_of in
    let reach = reaches g before in
    let said : Result Front Answer = Ok (Filled c.in-Ok-Filled.told) in
    let next = c.in-Ok-Filled.is ∙ ap Ok c.in-Ok-Filled.field-0-is in
    record {
      reads_on = reads_on g before;
      faults = c.in_ok-load.ensures.cause ∙ c.pages.invariant.faults;
      below = omega arith;
      first = omega (arith, c.pages.invariant.first);
      unread = λ far. absurd (omega (arith, c.pages.invariant.first, reach));
      near = omega arith;
      begins = λ pages sees turns left. step g before pages sees turns left ∙ ap (goes_on (begin_at turns c.args.cache.now.geometry pages) c.pages.page) next;
    }

pub returns-clause-begins : goal.returns-clause-begins
returns-clause-begins g c pages sees =
    let size = c.args.cache.now.geometry in
    let page = c.pages.page in
    let before = c.pages.invariant.begins pages sees in
    let loaded = c.in_ok-load.ensures.loaded pages (c.pages.invariant.reads_on.sees pages sees) in
    let same : c.load.new.self.geometry ≡ size = c.in_ok-load.ensures.reads_on.geometry ∙ c.pages.invariant.reads_on.geometry in
    let none : pages page ≡ None = subst (λ (there : Bool). IsLoaded (pages page) page there c.load.new.self) c.if-branch.false loaded in
    let end = begins_nowhere_more size pages page c.pages.timeline (2 ^ 47 + c.args.start.0 / 8192) (beginning size pages c.args.start.0) before none c.pages.invariant.near in
    let told : c.page_end.result ≡ ended size (position_of size (page * 8192)) = subst (λ (n : ℕ). c.page_end.result ≡ ended n (position_of n (page * 8192))) same c.page_end.ensures in
    end ∙ ap Err (sym told)

-- the reads go on where they went on before
pub returns-in-Ok-Here-clause-reads_on : goal.returns-in-Ok-Here-clause-reads_on
returns-in-Ok-Here-clause-reads_on g c = reads_on g (goal.at.returns-in-Ok-Here-clause-reads_on g c).After-front_of

pub returns-in-Err-clause-reads_on : goal.returns-in-Err-clause-reads_on
returns-in-Err-clause-reads_on g c = reads_on g (goal.at.returns-in-Err-clause-reads_on g c).After-front_of
