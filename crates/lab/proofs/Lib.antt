mod Following
mod OtherJobs
