mod RollLaws
mod ZoneMemoryLaws
